-- What the passes over a symbol ask and do, between the plan of the tables and the answers. A pass is not lent the classes or tables
-- that its lists were planned from: ...Supposes is what it supposes of some, ...Needs that there are such, and ...Any... is its promise
-- for whichever they are.
pub mod WriteSymbol
pub mod ReadSymbol

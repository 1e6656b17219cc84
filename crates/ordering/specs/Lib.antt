-- What the code's contracts cite besides document 01's definitions: what stands in the arrays of t' and b', and what writing them asks.
pub mod Ordered

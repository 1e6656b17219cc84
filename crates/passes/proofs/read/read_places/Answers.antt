-- `passes::read::read_places` meets its contract: 13 at the first place off its constellation, or 14 at the first whose label is not
-- the filler bits, or the labels.
use Rattle.passes.proofs.ReadPlaces.{demap_needs, check_needs, off_found, filler_found, none_found}
use mathlib.Core.Path.{◌∙◌}
use Rattle.passes.proofs.read.read_places.Goals as goal

pub demap_points-requires : goal.demap_points-requires
demap_points-requires c = demap_needs c.requires.4

pub returns-in-Some : goal.returns-in-Some
returns-in-Some c =
    λ cs from es ps w. off_found w c.demap_points.ensures c.in-Some.is _

pub check_filler-f-requires : goal.check_filler-f-requires
check_filler-f-requires c =
    check_needs c.requires.4 c.demap_points.new.labels (c.demap_points.ensures.labels_length ∙ c.requires.4.xs_length)

pub returns-in-Some-monitor : goal.returns-in-Some-monitor
returns-in-Some-monitor c =
    λ cs from es ps w. filler_found w c.demap_points.ensures c.in_default.is c.check_filler-f.ensures c.in-Some-monitor.is

pub returns : goal.returns
returns c =
    λ cs from es ps w. none_found w c.demap_points.ensures c.in_default.is c.check_filler-f.ensures c.in_default-monitor.is

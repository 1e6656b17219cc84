-- `decisions::label_points` meets its contract: the labels that are found for nearest points are nearest labels.
use Rattle.decisions.proofs.Places.{labels_are_lem}
use mathlib.Core.Path.{sym, ◌∙◌}
use native.Mathlib.Omega.{arith}
use Rattle.decisions.proofs.label_points.Goals as goal

pub demap_all-requires : goal.demap_all-requires
demap_all-requires c =
    let s = c.requires.0 in
    let p = c.nearest_points.ensures in
    let n = p.xs_length ∙ s.lows_length in
    record {
      points =
          record {
            layouts_length = s.places.layouts_length ∙ sym n;
            ys_length = p.ys_length ∙ s.lows_length ∙ sym n;
            of_tones = λ i h. s.places.of_tones i (omega (arith, h, n));
          };
      labels_length = c.requires.1 ∙ sym n;
    }

pub returns : goal.returns
returns c =
    let s = c.requires.0 in
    let p = c.nearest_points.ensures in
    labels_are_lem s.places.layouts_length (p.xs_length ∙ s.lows_length) p c.demap_all.ensures c.put_labels.ensures

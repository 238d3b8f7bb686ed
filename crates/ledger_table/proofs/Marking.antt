-- What marks say of the ends of operations.
use Rattle.std.proofs.Common.{◌≡◌, ℕ, ◌<◌, Bool, true, false, ◌&&◌, List, [], length, map, get_or, slice_index, refl, sym, ◌∙◌, ap, subst, arith}
use Rattle.std.proofs.lemmas.Option.{same_Some, slice_get-get_or, slice_get-map, slice_get_within}
use Rattle.std.proofs.lemmas.List.{length-map}
use Rattle.std.specs.Prelude.{option_map}
use lib.Dec.{leb}
use Rattle.layer_model.specs.declared.wiring.Wire.{Wire}
use Rattle.layer_model.specs.Wirings.{IsWiring, CountsReaders, input_count, reader_count}
use Rattle.ledger_history.specs.declared.event.Event.{Event}
use Rattle.ledger_history.specs.Histories.{is_finished, is_published, returns}
use Rattle.ledger_history.specs.Enabled.{Legal}
use Rattle.ledger_history.proofs.Releases.{finished_by_count}
use Rattle.ledger_table.specs.declared.mark.Mark.{Mark}
use Rattle.ledger_table.specs.Marks.{MarkOf, MarksOf, wired, run_of, fresh}

pub done_by_mark : (ws : List Wire) (budget workers : ℕ) (h : List Event) (marks : List Mark) (op : ℕ) (d : Mark) → IsWiring ws → MarksOf ws h marks → Legal (run_of ws budget workers h) h → op < length marks
    → ((get_or marks op d).published && leb (input_count ws op) (get_or marks op d).released) ≡ is_finished (wired ws) h op
done_by_mark ws budget workers h marks op d v m l b =
    let e = m.each op (get_or marks op d) (slice_get-get_or marks op d b) in
    ap (λ p. p && leb (input_count ws op) (get_or marks op d).released) e.published
    ∙ (ap (λ r. is_published h op && leb (input_count ws op) r) e.released
    ∙ sym (finished_by_count (run_of ws budget workers h) h op v l))

pub not_and : (p q b : Bool) → (p && q) ≡ b → p ≡ false → p ≡ b
not_and p q b e f = f ∙ (ap (λ r. r && q) (sym f) ∙ e)

pub yes_and : (p q b : Bool) → (p && q) ≡ b → p ≡ true → q ≡ b
yes_and p q b e f = ap (λ r. r && q) (sym f) ∙ e

pub marks_start : (ws : List Wire) (counts : List ℕ) → CountsReaders ws counts → MarksOf ws [] (map fresh counts)
marks_start ws counts c =
    record {
      all = length-map counts fresh ∙ c.all;
      each = λ i m e.
          let b = slice_get_within (map fresh counts) i m e in
          let h : i < length counts = omega (arith, length-map counts fresh) in
          let g : i < length ws = omega (arith, c.all) in
          let r : fresh (slice_index counts i) ≡ m = same_Some _ _ (sym (slice_get-map fresh counts i ∙ ap (option_map fresh) (slice_get-get_or counts i 0 h)) ∙ e) in
          by_count i m (slice_index counts i) r (c.count i g);
    }
  where
    by_count : (i : ℕ) (m : Mark) (n : ℕ) → fresh n ≡ m → n ≡ reader_count ws i → MarkOf ws [] (λ j. returns (wired ws) [] j) i m
    by_count i m n r q = subst (λ x. MarkOf ws [] (λ j. returns (wired ws) [] j) i x) r (record { claimed = refl; charged = refl; published = refl; released = refl; left = omega arith; cost = refl })

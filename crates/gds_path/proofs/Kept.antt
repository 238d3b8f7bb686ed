-- What stood in a list stays when more is added.
use Rattle.std.proofs.Common.{◌≡◌, List, ◌++◌, take, drop, length, sym, ap, ◌∙◌, append_assoc}
use Rattle.std.proofs.lemmas.List.{take-append-drop}
use Rattle.std.proofs.Math.Seq.{take-append_seam}
use Rattle.drc_geom.specs.declared.rect.Rect.{Rect}

pub kept_before : (old now more : List Rect) → take (length old) now ≡ old → take (length old) (now ++ more) ≡ old
kept_before old now more e =
    ap (λ l. take (length old) (l ++ more)) (sym (take-append-drop (length old) now) ∙ ap (λ l. l ++ drop (length old) now) e)
    ∙ ap (take (length old)) (append_assoc old (drop (length old) now) more)
    ∙ take-append_seam old (drop (length old) now ++ more)

use Rattle.std.proofs.Common.{◌≡◌, ℤ, pos, negsuc, ◌*ℤ◌, ◌<ℤ◌, arith, ap, sym, ◌∙◌, int_rem}
use Rattle.std.proofs.lemmas.Int.{ints, to_z-of_z}
use Rattle.drc_num.proofs.Numbers.{rem_of_multiple}
use Rattle.drc_num.proofs.division.quotient.Goals as goal

of_positive : (q a b : ℤ) → pos 0 <ℤ b → q *ℤ b ≡ a → int_rem a b ≡ pos 0
of_positive q a (pos d) p e = ap (λ z. int_rem z (pos d)) (sym e) ∙ rem_of_multiple q d
of_positive q a (negsuc d) p e = absurd (omega (arith, ints))

pub returns-else-rest-eq0-clause-none : goal.returns-else-rest-eq0-clause-none
returns-else-rest-eq0-clause-none c =
    λ q e. grind (arith, to_z-of_z, of_positive q c.args.a c.args.b c.requires.some e)

use Rattle.std.proofs.Common.{sym, ap, ◌∙◌, rules, w64, SFits}
use Rattle.std.proofs.lemmas.Int.{to_z-of_z}
use Rattle.std.specs.Option.{option_and_then}
use Rattle.gds_placing.specs.Copies.{whole_of, times_of}
use Rattle.gds_placing.proofs.Wholes.{value_of_whole, whole_of_value, times_refused}
use Rattle.gds_placing.proofs.said.times_of.Goals as goal

pub returns-in-None-clause-said : goal.returns-in-None-clause-said
returns-in-None-clause-said c =
    sym (times_refused (whole_of c.args.real) (λ n e. c.in-None.ensures.none n (value_of_whole c.args.real n e)))

pub returns-in-Some-clause-said : goal.returns-in-Some-clause-said
returns-in-Some-clause-said c =
    let fits : SFits w64 c.in-Some.whole = search rules in
    c.times.ensures.said ∙ ap times_of (to_z-of_z w64 c.in-Some.whole fits)
    ∙ sym (ap (option_and_then times_of) (whole_of_value c.args.real c.in-Some.whole c.in-Some.ensures.some.0))

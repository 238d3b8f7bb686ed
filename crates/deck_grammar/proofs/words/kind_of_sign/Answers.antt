use Rattle.std.proofs.Common.{◌∙◌, ap}
use Rattle.deck_grammar.specs.declared.kind.Kind.TheVariants.{SetAside}
use Rattle.deck_grammar.specs.Words.{lookup, sign_kind}
use Rattle.deck_grammar.proofs.Tables.{signs_are}
use Rattle.deck_grammar.proofs.words.kind_of_sign.Goals as goal

pub returns : goal.returns
unfolding sign_kind
returns c = c.lookup.ensures ∙ ap (λ rows. lookup SetAside rows c.args.sign.now) signs_are

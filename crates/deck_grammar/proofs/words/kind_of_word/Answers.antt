use Rattle.std.proofs.Common.{◌≡◌, ◌∙◌, sym, ap, false}
use Rattle.std.specs.Prelude.{if◌then◌else◌}
use Rattle.deck_grammar.specs.declared.kind.Kind.TheVariants.{SetAside, Name}
use Rattle.deck_grammar.specs.Words.{lookup, begins_with_hash, word_rows, word_kind}
use Rattle.deck_grammar.proofs.Tables.{words_are}
use Rattle.deck_grammar.proofs.words.kind_of_word.Goals as goal

pub returns : goal.returns
unfolding word_kind
returns c =
    let word = c.args.word.now in
    let no_hash : begins_with_hash word ≡ false = cc in
    (c.lookup.ensures ∙ ap (λ rows. lookup Name rows word) words_are)
    ∙ sym (ap (λ b. if b then SetAside else lookup Name word_rows word) no_hash)

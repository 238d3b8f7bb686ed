-- The tables of the code are those of the definitions.
use Rattle.std.proofs.Common.{◌≡◌, map, refl}
use Rattle.deck_tree.specs.Words.{unsupported_words}
use Rattle.deck_grammar.specs.declared.words.TheConstants.{WORDS, SIGNS}
use Rattle.deck_grammar.specs.Words.{keyword_rows, word_rows, sign_rows}

pub words_are : map (λ row. (row.0.now, row.1)) WORDS ≡ word_rows
unfolding word_rows keyword_rows unsupported_words
words_are = refl

pub signs_are : map (λ row. (row.0.now, row.1)) SIGNS ≡ sign_rows
unfolding sign_rows
signs_are = refl

-- The signs and words that stand for a part of the tree.
use Rattle.std.specs.Prelude.{Bool, true, false, Option, Some, None}
use Rattle.deck_tree.specs.declared.value.AddSign.{AddSign}
use Rattle.deck_tree.specs.declared.value.AddSign.TheVariants as add_sign
use Rattle.deck_tree.specs.declared.value.ProductSign.{ProductSign}
use Rattle.deck_tree.specs.declared.value.ProductSign.TheVariants as product_sign
use Rattle.deck_grammar.specs.declared.sign.Sign.{Sign}
use Rattle.deck_grammar.specs.declared.sign.Sign.TheVariants as s
use Rattle.deck_grammar.specs.declared.kind.Kind.{Kind}
use Rattle.deck_grammar.specs.declared.kind.Kind.TheVariants as kinds

abbrev pub sign_of_addend : AddSign → Sign
sign_of_addend add_sign.Plus = s.Plus
sign_of_addend add_sign.Minus = s.Minus

abbrev pub sign_of_factor : ProductSign → Sign
sign_of_factor product_sign.Times = s.Times
sign_of_factor product_sign.Over = s.Over
sign_of_factor product_sign.Modulo = s.Modulo

-- the sign before an addend or a factor, if a token of this kind is one
abbrev pub addend_sign : Option Kind → Option AddSign
addend_sign (Some (kinds.Sign s.Plus)) = Some add_sign.Plus
addend_sign (Some (kinds.Sign s.Minus)) = Some add_sign.Minus
addend_sign _ = None

abbrev pub factor_sign : Option Kind → Option ProductSign
factor_sign (Some (kinds.Sign s.Times)) = Some product_sign.Times
factor_sign (Some (kinds.Sign s.Over)) = Some product_sign.Over
factor_sign (Some (kinds.Sign s.Modulo)) = Some product_sign.Modulo
factor_sign _ = None

-- what a check holds ends here
abbrev pub ends_items : Option Kind → Bool
ends_items None = true
ends_items (Some (kinds.Sign s.RightBrace)) = true
ends_items _ = false

-- Working words of a layer that is `LENGTH input < bound` and nothing else: the input, and the bound's digits.
use Rattle.std.specs.Prelude.{ℕ, List, Option, Some, None}
use Rattle.list_facts.specs.Attempts.{◌>>=◌}
use Rattle.deck_tree.specs.declared.value.Value.{Value}
use Rattle.deck_tree.specs.declared.limits.Below.{Below}
use Rattle.deck_tree.specs.declared.limits.Below.TheVariants as below
use Rattle.deck_tree.specs.declared.limits.Limits.{Limits}
use Rattle.deck_tree.specs.declared.limits.Limits.TheVariants as limits
use Rattle.deck_tree.specs.declared.layer.Prefix.{Prefix}
use Rattle.deck_tree.specs.declared.layer.Prefix.TheOpen.{Prefix-F, Primary-F, Term-F, Layer-F, Operation-F}
use Rattle.deck_tree.specs.declared.layer.Prefix.TheFolds.{fold-Prefix, fold-Primary, fold-Term, fold-Layer}
use Rattle.deck_tree.specs.declared.layer.Primary.{Primary}
use Rattle.deck_tree.specs.declared.layer.Term.{Term}
use Rattle.deck_tree.specs.declared.layer.Layer.{Layer}
use Rattle.first_form.specs.FirstForm.{Decimal}
use Rattle.first_form.specs.Working.Values.{alone, lone_value}

pub record LengthLine : Type 0 where
  pub input : List ℕ
  pub bound : Decimal

abbrev pub Line : Type 0
Line = Option LengthLine

abbrev pub Named : Type 0
Named = Option (List ℕ)

-- a bound with `<`
abbrev pub less_in : Below → Value → Option Decimal
less_in below.Less value = lone_value value
less_in below.LessOrEqual value = None

abbrev pub bound_in : Limits → Option Decimal
bound_in (limits.Below bound) = less_in bound.sign bound.value
bound_in (limits.Equal value) = None
bound_in (limits.NotEqual value) = None
bound_in (limits.Above sign value bound) = None

abbrev pub joined : Named → Option Decimal → Line
joined input bound = do
  i ← input
  b ← bound
  Some (record { input = i; bound = b })

-- ---- one level each, with what is found in each part

abbrev pub prefix_step : Prefix-F Line Line Named Line Line → Line
prefix_step (Prefix-F.Copy term) = None
prefix_step (Prefix-F.Rectangle term) = None
prefix_step (Prefix-F.Area term bounds) = None
prefix_step (Prefix-F.Length term bounds) = joined term (bound_in bounds)
prefix_step (Prefix-F.Size term value turn) = None
prefix_step (Prefix-F.Angle term value) = None
prefix_step (Prefix-F.Expand term side value) = None

abbrev pub primary_step : Primary-F Line Line Named Line Line → Line
primary_step (Primary-F.Term term) = None
primary_step (Primary-F.Prefix at prefix) = prefix
primary_step (Primary-F.Distance at distance) = None

abbrev pub term_step : Term-F Line Line Named Line Line → Named
term_step (Term-F.Name name) = Some name.name
term_step (Term-F.Bracketed at layer) = None

abbrev pub layer_step : Layer-F Line Line Named Line Line → Line
layer_step layer = alone layer.more layer.first

abbrev pub operation_step : Operation-F Line Line Named Line Line → Line
operation_step operation = None

abbrev pub prefix_line : Prefix → Line
prefix_line = fold-Prefix Line Line Named Line Line prefix_step primary_step term_step layer_step operation_step

abbrev pub primary_line : Primary → Line
primary_line = fold-Primary Line Line Named Line Line prefix_step primary_step term_step layer_step operation_step

abbrev pub term_name : Term → Named
term_name = fold-Term Line Line Named Line Line prefix_step primary_step term_step layer_step operation_step

abbrev pub layer_line : Layer → Line
layer_line = fold-Layer Line Line Named Line Line prefix_step primary_step term_step layer_step operation_step

-- The types and the opened element of one record more.
use Rattle.std.proofs.Common.{◌≡◌, refl, ◌∙◌, ap, List, [], ◌∷◌, ◌++◌, Option, Some, None}
use Rattle.std.specs.Option.{option_or}
use Rattle.gds_records.specs.Records.{Item}
use Rattle.gds_grammar.specs.declared.line.Line.{Line}
use Rattle.gds_facts.specs.Opened.{types_of, opened_by, last_opened}

pub types-append : (items others : List Item) → types_of (items ++ others) ≡ types_of items ++ types_of others
types-append [] others = refl
types-append (item ∷ items) others = ap (λ those. item.kind ∷ those) (types-append items others)

or_none : (a : Option Line) → option_or None a ≡ option_or a None
or_none None = refl
or_none (Some line) = refl

or_assoc : (a b c : Option Line) → option_or (option_or a b) c ≡ option_or a (option_or b c)
or_assoc None b c = refl
or_assoc (Some line) b c = refl

pub last_opened-append : (items : List Item) (item : Item) → last_opened (items ++ item ∷ []) ≡ option_or (opened_by item.kind) (last_opened items)
last_opened-append [] item = or_none (opened_by item.kind)
last_opened-append (other ∷ items) item =
    ap (λ those. option_or those (opened_by other.kind)) (last_opened-append items item)
    ∙ or_assoc (opened_by item.kind) (last_opened items) (opened_by other.kind)

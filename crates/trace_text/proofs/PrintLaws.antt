-- What is printed is the text of a trace.
use Rattle.std.proofs.Common.{◌≡◌, ℕ, suc, ◌<◌, ◌^◌, Bool, true, false, ◌||◌, List, [], ◌∷◌, ◌++◌, length, get_or, map, reverse, refl, sym, ap, subst, ◌∙◌, append_assoc, append-nil}
use Rattle.std.specs.List.{AllByRecursion}
use Rattle.std.proofs.lemmas.Bool.{or_parts}
use Rattle.std.proofs.lemmas.List.{reverse-append}
use Rattle.ledger_history.specs.declared.event.Event.{Event}
use Rattle.ledger_history.specs.declared.event.Event.TheVariants.{Claim, Charge, Publish, Release, Stop}
use Rattle.ledger_history.specs.Histories.{is_stopped}
use Rattle.ledger_history.specs.Steps.{is_stop}
use Rattle.ledger_record.specs.declared.history.History.{History}
use Rattle.ledger_record.specs.Records.{past, past_of}
use Rattle.trace_line.specs.declared.line.Line.{Line}
use Rattle.trace_line.specs.declared.line.Line.TheVariants as lines
use Rattle.trace_line.specs.Lines.{line_text, HasText}
use Rattle.trace_text.specs.Traces.{cost_lines, lines_of, text_of}
use Rattle.trace_text.specs.Printed.{charged_cost, told_of, Prints}
use Rattle.trace_text.specs.Working.Charges.{HasTextIfNoStop, HeaderFits}
use Rattle.trace_text.proofs.Texts.{text-append}

-- ---- nobody stopped

is_stopped-append : (g h : List Event) → is_stopped (g ++ h) ≡ (is_stopped g || is_stopped h)
is_stopped-append [] h = refl
is_stopped-append (Claim w i ∷ g) h = is_stopped-append g h
is_stopped-append (Charge w i c ∷ g) h = is_stopped-append g h
is_stopped-append (Publish w i ∷ g) h = is_stopped-append g h
is_stopped-append (Release w i k ∷ g) h = is_stopped-append g h
is_stopped-append (Stop w ∷ g) h = refl

lone_stop : (e : Event) → is_stopped (e ∷ []) ≡ is_stop e
lone_stop (Claim w i) = refl
lone_stop (Charge w i c) = refl
lone_stop (Publish w i) = refl
lone_stop (Release w i k) = refl
lone_stop (Stop w) = refl

all_have_texts : (es : List Event) → is_stopped (reverse es) ≡ false → AllByRecursion HasTextIfNoStop es → AllByRecursion HasText es
all_have_texts [] n h = tt
all_have_texts (e ∷ es) n h =
    let p : is_stopped (reverse es ++ (e ∷ [])) ≡ false = ap is_stopped (sym (reverse-append (e ∷ []) es)) ∙ n in
    let q = or_parts (is_stopped (reverse es)) (is_stopped (e ∷ [])) (sym (is_stopped-append (reverse es) (e ∷ [])) ∙ p) in
    (h.0 (sym (lone_stop e) ∙ q.1), all_have_texts es q.0 h.1)

-- ---- the text

all_small : (cs : List ℕ) → ((i : ℕ) → get_or cs i 0 < 2 ^ 64) → AllByRecursion (λ c. c < 2 ^ 64) cs
all_small [] f = tt
all_small (c ∷ cs) f = (f 0, all_small cs (λ i. f (suc i)))

abbrev header_of : History → List Line
header_of h = lines.Title ∷ lines.Operations h.operations ∷ lines.Workers h.workers ∷ lines.Budget h.budget ∷ []

whole_text : (h : History) (costs : List ℕ)
    → ((text_of (header_of h) ++ text_of (cost_lines 0 costs)) ++ text_of (map lines.Step h.events.items)) ++ line_text lines.End ≡ text_of (lines_of (told_of h costs))
whole_text h costs =
    let cs : List Line = cost_lines 0 costs in
    let es : List Line = map lines.Step h.events.items in
    let last : line_text lines.End ≡ text_of (lines.End ∷ []) = sym (append-nil (line_text lines.End)) in
    let parts : text_of (header_of h ++ (cs ++ (es ++ (lines.End ∷ [])))) ≡ text_of (header_of h) ++ (text_of cs ++ (text_of es ++ text_of (lines.End ∷ []))) =
    text-append (header_of h) (cs ++ (es ++ (lines.End ∷ [])))
    ∙ ap (λ x. text_of (header_of h) ++ x) (text-append cs (es ++ (lines.End ∷ [])) ∙ ap (λ x. text_of cs ++ x) (text-append es (lines.End ∷ []))) in
    ap (λ x. ((text_of (header_of h) ++ text_of cs) ++ text_of es) ++ x) last
    ∙ regroup (text_of (header_of h)) (text_of cs) (text_of es) (text_of (lines.End ∷ []))
    ∙ sym parts
  where
    regroup : (a b c d : List ℕ) → ((a ++ b) ++ c) ++ d ≡ a ++ (b ++ (c ++ d))
    regroup a b c d = append_assoc (a ++ b) c d ∙ append_assoc a b (c ++ d)

pub prints : (h : History) (costs a b c text : List ℕ) → HeaderFits h.operations h.workers h.budget → length costs ≡ h.operations
    → ((i : ℕ) → i < h.operations → get_or costs i 0 ≡ charged_cost (past h) i) → ((i : ℕ) → get_or costs i 0 < 2 ^ 64)
    → AllByRecursion HasTextIfNoStop h.events.items → is_stopped (past h) ≡ false
    → a ≡ text_of (header_of h) → b ≡ a ++ text_of (cost_lines 0 costs) → c ≡ b ++ text_of (map lines.Step h.events.items) → text ≡ c ++ line_text lines.End
    → Prints h text
prints h costs a b c text fit count each small steps free p q r s =
    record {
      costs = costs;
      charges = record { count = count; each = each };
      spells = record {
        trace = record { operations = fit.few_operations; workers = fit.few_workers; budget = fit.small_budget; count = count; costs = all_small costs small; events = all_have_texts h.events.items free steps };
        same = s ∙ ap (λ x. x ++ line_text lines.End) (r ∙ ap (λ x. x ++ text_of (map lines.Step h.events.items)) (q ∙ ap (λ x. x ++ text_of (cost_lines 0 costs)) p)) ∙ whole_text h costs;
      };
    }

-- the same where the parts were borrowed
pub prints_parts : (h : History) (es : List Event) (costs cs : List ℕ) (fs : List Event) (o a b c text : List ℕ)
    → es ≡ h.events.items → cs ≡ costs → fs ≡ h.events.items → o ≡ []
    → HeaderFits h.operations h.workers h.budget → length costs ≡ h.operations → ((i : ℕ) → i < h.operations → get_or costs i 0 ≡ charged_cost (past_of es) i)
    → ((i : ℕ) → get_or cs i 0 < 2 ^ 64) → AllByRecursion HasTextIfNoStop fs → is_stopped (past h) ≡ false
    → a ≡ o ++ text_of (header_of h) → b ≡ a ++ text_of (cost_lines 0 cs) → c ≡ b ++ text_of (map lines.Step fs) → text ≡ c ++ line_text lines.End
    → Prints h text
prints_parts h es costs cs fs o a b c text d e f g fit count each small steps free p q r s =
    prints h costs a b c text fit count
    (λ i lt. each i lt ∙ ap (λ x. charged_cost (past_of x) i) d)
    (subst (λ x. (i : ℕ) → get_or x i 0 < 2 ^ 64) e small)
    (subst (AllByRecursion HasTextIfNoStop) f steps)
    free
    (p ∙ ap (λ x. x ++ text_of (header_of h)) g)
    (q ∙ ap (λ x. a ++ text_of (cost_lines 0 x)) e)
    (r ∙ ap (λ x. b ++ text_of (map lines.Step x)) f)
    s

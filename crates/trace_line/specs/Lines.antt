-- The lines of a trace, each with its line feed.
use Rattle.std.specs.Prelude.{◌≡◌, ℕ, ◌<◌, ◌^◌, List, [], ◌++◌, codes, decimal}
use Rattle.ledger_history.specs.declared.event.Event.{Event}
use Rattle.ledger_history.specs.declared.event.Event.TheVariants.{Claim, Charge, Publish, Release, Stop}
use Rattle.trace_line.specs.declared.line.Line.{Line}
use Rattle.trace_line.specs.declared.line.Line.TheVariants.{Title, Operations, Workers, Budget, Cost, Step, End}

-- ---- the words between the numbers

unfoldable pub title : List ℕ
title = codes "DRCTRACE 1\n"

unfoldable pub before_operations : List ℕ
before_operations = codes "operations "

unfoldable pub before_workers : List ℕ
before_workers = codes "workers "

unfoldable pub before_budget : List ℕ
before_budget = codes "budget "

unfoldable pub before_cost : List ℕ
before_cost = codes "cost "

unfoldable pub before_claim : List ℕ
before_claim = codes "claim "

unfoldable pub before_charge : List ℕ
before_charge = codes "charge "

unfoldable pub before_publish : List ℕ
before_publish = codes "publish "

unfoldable pub before_release : List ℕ
before_release = codes "release "

unfoldable pub last_line : List ℕ
last_line = codes "end\n"

unfoldable pub space : List ℕ
space = codes " "

unfoldable pub line_feed : List ℕ
line_feed = codes "\n"

-- ---- the texts

-- numbers with no leading zero, split by one space
abbrev pub one_number : ℕ → List ℕ
one_number a = decimal a ++ line_feed

abbrev pub two_numbers : ℕ → ℕ → List ℕ
two_numbers a b = decimal a ++ (space ++ one_number b)

abbrev pub three_numbers : ℕ → ℕ → ℕ → List ℕ
three_numbers a b c = decimal a ++ (space ++ two_numbers b c)

-- the text of an event; a stop has none
abbrev pub event_text : Event → List ℕ
event_text (Claim w i) = before_claim ++ two_numbers w i
event_text (Charge w i c) = before_charge ++ three_numbers w i c
event_text (Publish w i) = before_publish ++ two_numbers w i
event_text (Release w i k) = before_release ++ three_numbers w i k
event_text (Stop w) = []

-- the text of a line
abbrev pub line_text : Line → List ℕ
line_text Title = title
line_text (Operations n) = before_operations ++ one_number n
line_text (Workers n) = before_workers ++ one_number n
line_text (Budget n) = before_budget ++ one_number n
line_text (Cost i c) = before_cost ++ two_numbers i c
line_text (Step e) = event_text e
line_text End = last_line

-- ---- what has a text: budgets and costs are below 2 ^ 64 and all other numbers below 2 ^ 32, and no event is a stop

abbrev pub HasText : Event → Type 0
HasText (Claim w i) = (w < 2 ^ 32) × (i < 2 ^ 32)
HasText (Charge w i c) = (w < 2 ^ 32) × (i < 2 ^ 32) × (c < 2 ^ 64)
HasText (Publish w i) = (w < 2 ^ 32) × (i < 2 ^ 32)
HasText (Release w i k) = (w < 2 ^ 32) × (i < 2 ^ 32) × (k < 2 ^ 32)
HasText (Stop w) = ⊥

abbrev pub IsLine : Line → Type 0
IsLine Title = Unit {0}
IsLine (Operations n) = n < 2 ^ 32
IsLine (Workers n) = n < 2 ^ 32
IsLine (Budget n) = n < 2 ^ 64
IsLine (Cost i c) = (i < 2 ^ 32) × (c < 2 ^ 64)
IsLine (Step e) = HasText e
IsLine End = Unit {0}

-- a line stands at the front of the text, and the rest behind it
pub record Begins (text : List ℕ) (l : Line) (rest : List ℕ) : Type 0 where
  pub line : IsLine l
  pub parts : text ≡ line_text l ++ rest

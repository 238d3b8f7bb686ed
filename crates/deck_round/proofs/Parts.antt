-- Texts that a rule of the grammar spells, put together part by part, and what is known of the trees.
use Rattle.std.proofs.Common.{◌≡◌, ℕ, suc, ◌+◌, ◌<◌, true, List, [], ◌∷◌, ◌++◌, length, refl, sym, subst, append_assoc, append-nil}
use Rattle.deck_lexer.specs.Bytes.{is_blank}
use Rattle.deck_tree.specs.WellFormed.{most_nested}
use Rattle.deck_grammar.specs.declared.sign.Sign.TheVariants as s
use Rattle.deck_grammar.specs.declared.kind.Kind.{Kind}
use Rattle.deck_grammar.specs.declared.kind.Kind.TheVariants as kinds
use Rattle.deck_grammar.specs.Lexemes.{Lexeme, lexeme}
use Rattle.deck_grammar.specs.Rules.{Rule, Tree, Part, token, rule, Meaning}
use Rattle.deck_grammar.specs.Alternatives.{Alternative, production}
use Rattle.deck_grammar.specs.Spelling.{Spells, done, take, choose}
use Rattle.deck_round.proofs.Lexing.{Closed, Piece, Before, piece_nil, piece_then, piece_blank}
use Rattle.deck_round.proofs.Levels.{Walks, walks_nil, walks_more, walks_then, opens, closes_again}
use Rattle.deck_round.proofs.Pieces.{One}
use Rattle.deck_round.proofs.Keywords.{left_round, right_round}

-- at this offset the text is tokens that the parts spell, and of the tree it is so
pub record SpelledAt (E : List ℕ → Type 0) (n : ℕ) (r : Rule) (parts : List Part) (meaning : Meaning parts (Tree r)) (at : ℕ) (w : List ℕ) (Is : Tree r → Type 0) : Type 0 where
  pub those : List Lexeme
  pub piece : Piece E at w those
  pub tree : Tree r
  pub spelled : (rest : List Lexeme) → Spells r parts meaning (those ++ rest) rest tree
  pub walks : Walks n n those
  pub is : Is tree

-- the text is spelled by the parts at each offset, where what comes behind it is so
pub record Spelled (E : List ℕ → Type 0) (n : ℕ) (r : Rule) (parts : List Part) (meaning : Meaning parts (Tree r)) (w : List ℕ) (Is : Tree r → Type 0) : Type 0 where
  pub at_each : (at : ℕ) → SpelledAt E n r parts meaning at w Is

-- the text is spelled by the rule
pub record Ruled (E : List ℕ → Type 0) (n : ℕ) (q : Rule) (w : List ℕ) (Is : Tree q → Type 0) : Type 0 where
  pub alternative : Alternative q
  pub spelled : Spelled E n q (production alternative).parts (production alternative).tree w Is

pub nothing : {E : List ℕ → Type 0} {n : ℕ} {r : Rule} {tree : Tree r} {Is : Tree r → Type 0} → Is tree → Spelled E n r [] tree [] Is
nothing {E = E} {n = n} {tree = tree} is = record { at_each = λ at. record { those = []; piece = piece_nil E at; tree = tree; spelled = λ rest. done; walks = walks_nil n; is = is } }

pub blank_then : {E : List ℕ → Type 0} {n : ℕ} {r : Rule} {parts : List Part} {meaning : Meaning parts (Tree r)} {Is : Tree r → Type 0} (c : ℕ) (w : List ℕ) → is_blank c ≡ true
    → Spelled E n r parts meaning w Is → Spelled E n r parts meaning (c ∷ w) Is
blank_then c w blank spelled = record {
  at_each = λ at.
      let later = spelled.at_each (suc at) in
      record { those = later.those; piece = piece_blank at c w later.those blank later.piece; tree = later.tree; spelled = later.spelled; walks = later.walks; is = later.is };
}

pub token_then : {E F : List ℕ → Type 0} {n : ℕ} {r : Rule} {k : Kind} {parts : List Part} {meaning : Lexeme → Meaning parts (Tree r)} {Is : Tree r → Type 0} (s w : List ℕ)
    → One F k s → Before E F w → ((at : ℕ) → Spelled E n r parts (meaning (lexeme k at s)) w Is) → Spelled E n r (token k ∷ parts) meaning (s ++ w) Is
token_then {n = n} {k = k} s w one before spelled = record {
  at_each = λ at.
      let later = (spelled at).at_each (at + length s) in
      record {
        those = lexeme k at s ∷ later.those;
        piece = piece_then at s w (lexeme k at s ∷ []) later.those (one.spot.piece at) before later.piece;
        tree = later.tree;
        spelled = λ rest. take (later.spelled rest);
        walks = walks_more n n n (lexeme k at s) later.those (one.flat.walks n at s) later.walks;
        is = later.is;
      };
}

pub rule_then : {E F : List ℕ → Type 0} {n : ℕ} {r q : Rule} {parts : List Part} {meaning : Tree q → Meaning parts (Tree r)} {Is : Tree r → Type 0} {Part-is : Tree q → Type 0} (v w : List ℕ)
    → Ruled F n q v Part-is → Before E F w → ((part : Tree q) → Part-is part → Spelled E n r parts (meaning part) w Is) → Spelled E n r (rule q ∷ parts) meaning (v ++ w) Is
rule_then {n = n} {r = r} {q = q} {parts = parts} {meaning = meaning} v w ruled before spelled = record {
  at_each = λ at.
      let first = ruled.spelled.at_each at in
      let later = (spelled first.tree first.is).at_each (at + length v) in
      record {
        those = first.those ++ later.those;
        piece = piece_then at v w first.those later.those first.piece before later.piece;
        tree = later.tree;
        spelled = λ rest. subst (λ (l : List Lexeme). Spells r (rule q ∷ parts) meaning l rest later.tree) (sym (append_assoc first.those later.those rest))
            (choose ruled.alternative (first.spelled (later.those ++ rest)) (later.spelled rest));
        walks = walks_then n n n first.those later.those first.walks later.walks;
        is = later.is;
      };
}

-- ---- The last part

without_nil : {E : List ℕ → Type 0} {n : ℕ} {r : Rule} {parts : List Part} {meaning : Meaning parts (Tree r)} {Is : Tree r → Type 0} (w : List ℕ) → Spelled E n r parts meaning (w ++ []) Is → Spelled E n r parts meaning w Is
without_nil {E} {n} {r} {parts} {meaning} {Is} w = subst (λ (t : List ℕ). Spelled E n r parts meaning t Is) (append-nil w)

pub last_token : {E : List ℕ → Type 0} {n : ℕ} {r : Rule} {k : Kind} {meaning : Lexeme → Tree r} {Is : Tree r → Type 0} (s : List ℕ)
    → One E k s → ((at : ℕ) → Is (meaning (lexeme k at s))) → Spelled E n r (token k ∷ []) meaning s Is
last_token s one is = without_nil s (token_then s [] one (λ rest e. e) (λ at. nothing (is at)))

pub last_rule : {E : List ℕ → Type 0} {n : ℕ} {r q : Rule} {meaning : Tree q → Tree r} {Is : Tree r → Type 0} {Part-is : Tree q → Type 0} (v : List ℕ)
    → Ruled E n q v Part-is → ((part : Tree q) → Part-is part → Is (meaning part)) → Spelled E n r (rule q ∷ []) meaning v Is
last_rule v ruled is = without_nil v (rule_then v [] ruled (λ rest e. e) (λ part part_is. nothing (is part part_is)))

-- ---- In round brackets

pub in_round : {n : ℕ} {r q : Rule} {meaning : Lexeme → Tree q → Lexeme → Tree r} {Is : Tree r → Type 0} {Part-is : Tree q → Type 0} (w : List ℕ) → n < most_nested → Ruled Closed (suc n) q w Part-is
    → ((bracket close : ℕ) (part : Tree q) → Part-is part → Is (meaning (lexeme (kinds.Sign s.LeftRound) bracket (40 ∷ [])) part (lexeme (kinds.Sign s.RightRound) close (41 ∷ []))))
    → Spelled Closed n r (token (kinds.Sign s.LeftRound) ∷ rule q ∷ token (kinds.Sign s.RightRound) ∷ []) meaning (40 ∷ (w ++ 41 ∷ [])) Is
in_round {n} {r} {q} {meaning} w below ruled is = record {
  at_each = λ at.
      let first = ruled.spelled.at_each (at + 1) in
      let place = at + 1 + length w in
      let left : Lexeme = lexeme (kinds.Sign s.LeftRound) at (40 ∷ []) in
      let right : Lexeme = lexeme (kinds.Sign s.RightRound) place (41 ∷ []) in
      let inner : Piece Closed (at + 1) (w ++ 41 ∷ []) (first.those ++ right ∷ []) = piece_then (at + 1) w (41 ∷ []) first.those (right ∷ []) first.piece (λ rest e. refl) (right_round.piece place) in
      record {
        those = left ∷ (first.those ++ right ∷ []);
        piece = piece_then {E = Closed} at (40 ∷ []) (w ++ 41 ∷ []) (left ∷ []) (first.those ++ right ∷ []) (left_round.piece at) (λ rest e. tt) inner;
        tree = meaning left first.tree right;
        spelled = λ rest. take (subst (λ (l : List Lexeme). Spells r (rule q ∷ token (kinds.Sign s.RightRound) ∷ []) (meaning left) l rest (meaning left first.tree right)) (sym (append_assoc first.those (right ∷ []) rest))
            (choose ruled.alternative (first.spelled (right ∷ rest)) (take done)));
        walks = walks_more n (suc n) n left (first.those ++ right ∷ []) (opens n at (40 ∷ []) below)
            (walks_then (suc n) (suc n) n first.those (right ∷ []) first.walks (closes_again n place (41 ∷ [])));
        is = is at place first.tree first.is;
      };
}

-- ---- With a space behind the part

pub token_space : {E : List ℕ → Type 0} {n : ℕ} {r : Rule} {k : Kind} {parts : List Part} {meaning : Lexeme → Meaning parts (Tree r)} {Is : Tree r → Type 0} (s w : List ℕ)
    → One Closed k s → ((at : ℕ) → Spelled E n r parts (meaning (lexeme k at s)) w Is) → Spelled E n r (token k ∷ parts) meaning (s ++ 32 ∷ w) Is
token_space s w one spelled = token_then s (32 ∷ w) one (λ rest e. refl) (λ at. blank_then 32 w refl (spelled at))

pub rule_space : {E : List ℕ → Type 0} {n : ℕ} {r q : Rule} {parts : List Part} {meaning : Tree q → Meaning parts (Tree r)} {Is : Tree r → Type 0} {Part-is : Tree q → Type 0} (v w : List ℕ)
    → Ruled Closed n q v Part-is → ((part : Tree q) → Part-is part → Spelled E n r parts (meaning part) w Is) → Spelled E n r (rule q ∷ parts) meaning (v ++ 32 ∷ w) Is
rule_space v w ruled spelled = rule_then v (32 ∷ w) ruled (λ rest e. refl) (λ part is. blank_then 32 w refl (spelled part is))

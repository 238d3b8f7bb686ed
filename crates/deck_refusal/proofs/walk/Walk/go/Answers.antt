use Rattle.std.proofs.Common.{List, sym, subst, ◌∙◌, arith}
use Rattle.std.proofs.lemmas.Bool.{false≢true}
use Rattle.deck_grammar.specs.Rules.{Part}
use Rattle.deck_stacks.specs.Stacks.{AreNext}
use Rattle.deck_refusal.proofs.Going.{wrong_so, passed, too_deep_so}
use Rattle.deck_refusal.proofs.walk.Walk.go.Goals as goal

pub returns-then-is_none_left : goal.returns-then-is_none_left
returns-then-is_none_left c = λ before at bytes come.
    wrong_so before c.args.self c.in_ok-stacks.stacks c.args.kind at bytes c.in_ok-misplaced.field-0 come
    c.in_ok-stacks.ensures
    (c.is_none_left.ensures.0 c.if-is_none_left.true) (c.in_ok-misplaced.ensures before come)

pub returns-in_ok-over-in-Some : goal.returns-in_ok-over-in-Some
returns-in_ok-over-in-Some c = λ before at bytes come.
    let over = c.in_ok-over-in-Some.ensures in
    let P : List (List Part) → Type 0 = λ those. AreNext c.args.kind c.args.self.stacks those in
    passed before c.args.self c.args.kind at bytes c.in_ok-over-in-Some.field-0 come (record {
      next = subst P (sym over.0) c.in_ok-stacks.ensures;
      some = λ e. false≢true (sym c.if-is_none_left.false ∙ c.is_none_left.ensures.1 (sym over.0 ∙ e));
      brackets = over.1 ∙ c.in-Some.ensures.value;
      few = omega (arith, over.1, c.in-Some.ensures.few);
      fine = c.in-Some.ensures.not_too_deep;
      recent = over.2;
    })

pub returns-in-None : goal.returns-in-None
returns-in-None c = λ before at bytes come.
    too_deep_so before c.args.self c.in_ok-stacks.stacks c.args.kind at bytes come c.in_ok-stacks.ensures
    (λ e. false≢true (sym c.if-is_none_left.false ∙ c.is_none_left.ensures.1 e)) c.in-None.ensures.too_deep

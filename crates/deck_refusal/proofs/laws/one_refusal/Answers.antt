use Rattle.deck_refusal.proofs.OneRefusal.{one, not_both}
use Rattle.deck_refusal.proofs.laws.one_refusal.Goals as goal

pub returns-clause-one : goal.returns-clause-one
returns-clause-one c = one (record {
  tokens = c.one_list_of_tokens.ensures.tokens;
  facts = c.one_list_of_tokens.ensures.facts;
  no_both = c.one_list_of_tokens.ensures.not_both;
  refusal = c.one_answer.ensures.refusal;
  accepted = c.one_answer.ensures.not_both;
})

pub returns-clause-not_both : goal.returns-clause-not_both
returns-clause-not_both c = not_both (record {
  tokens = c.one_list_of_tokens.ensures.tokens;
  facts = c.one_list_of_tokens.ensures.facts;
  no_both = c.one_list_of_tokens.ensures.not_both;
  refusal = c.one_answer.ensures.refusal;
  accepted = c.one_answer.ensures.not_both;
})

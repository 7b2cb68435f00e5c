use Rattle.bs_match.specs.Mail.{lookup}
use Rattle.bs_chare.proofs.Equal.{copied}
use Rattle.bs_chare.proofs.Steps.{told_idle, proper_after, on_err, no_news}
use Rattle.bs_chare.proofs.chare.Chare.accept.Goals as goal

pub invariant_of-self : goal.invariant_of-self
invariant_of-self c =
    let self = c.args.self.now in
    record {
      is_chare = self.is_chare;
      limit_in_range = self.limit_in_range;
      is_proper = proper_after self.number self.mail c.put.new.mail c.args.message c.put.result self.is_proper c.requires.proper c.put.ensures.held c.put.ensures.unchanged;
      is_told = told_idle self.begun self.accepted.now.program self.limit self.number (lookup self.mail) (lookup c.put.new.mail) self.history c.if-self.false self.is_told;
      is_small = self.is_small;
      asks_once = self.asks_once;
    }

pub returns-in_err-put-clause-unchanged : goal.returns-in_err-put-clause-unchanged
returns-in_err-put-clause-unchanged c = on_err c.from_residual.result (copied c.args.self.now c.put.new.mail c.args.self.now.history c.in_err-put.ensures.unchanged _ _ _ _ _ _)

pub returns-in_ok-put-clause-news : goal.returns-in_ok-put-clause-news
returns-in_ok-put-clause-news c = no_news _ c.new.result c.new.ensures

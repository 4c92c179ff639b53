use Rattle.std.proofs.Common.{◌%◌, get_or, sym, subst, arith}
use Rattle.replies.specs.Bounds.{AnswersIn, NumbersIn, EvictedIn}
use Rattle.host_ledger.specs.Parts.{replies_at}
use Rattle.host_unique_reply.proofs.Laws.{answers_stay, numbers_stay, evicted_stay, counted-as}
use Rattle.host_unique_reply.proofs.count.Goals as goal

pub overflow_add-ledger : goal.overflow_add-ledger
unfolding replies_at
overflow_add-ledger c = record { fits = omega (arith, c.requires.totals.unique) }

pub answer-requires : goal.answer-requires
answer-requires c =
    let s = c.before.before.before.before in
    subst AnswersIn (sym (answers_stay s.args.ledger.now)) s.requires.answers

pub number-requires : goal.number-requires
number-requires c =
    let s = c.before.before.before.before.before.before in
    let a = s.args in
    subst NumbersIn (sym (numbers_stay a.ledger.now a.before (get_or a.ledger.now 0 0 % 65536) a.pending _ c.answer.ensures)) s.requires.numbers

pub evict-requires : goal.evict-requires
evict-requires c =
    let s = c.before.before.before.before.before.before.before.before in
    let a = s.args in
    subst EvictedIn (sym (evicted_stay a.ledger.now a.before (get_or a.ledger.now 0 0 % 65536) a.pending _ c.answer.ensures a.sender a.reflector _ c.number.ensures)) s.requires.evicted

pub returns : goal.returns
returns c =
    let a = c.args in
    counted-as a.ledger.now _ _ _ _ c.answer.ensures _ _ _ c.number.ensures _ _ _ _ c.evict.ensures

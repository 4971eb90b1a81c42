use Rattle.std.proofs.Common.{length, ap, arith}
use Rattle.std.proofs.lemmas.List.{length-append, length-drop}
use Rattle.bc_machine.specs.Agendas.{AgendaState}
use Rattle.bc_machine.specs.Hosting.{inserts_up_to, inserted_in, queue_at}
use Rattle.bc_machine.proofs.Queued.{inserts_both}
use Rattle.bc_machine.proofs.Kept.{all_of}
use Rattle.bc_machine.proofs.Left.{few_up_to}
use Rattle.bc_machine.proofs.agenda.Agenda.queued.Goals as goal

pub returns : goal.returns
returns c =
    let a = c.self.inside in
    let n = length a.made in
    let first = ap (λ k. length (inserts_up_to k a.placed.actions)) c.self.invariant.number in
    let second = ap (λ k. length (inserts_up_to k a.posted.actions)) c.self.invariant.number in
    omega (
      arith,
      first,
      second,
      inserts_both n a.placed.actions a.posted.actions,
      length-drop (inserted_in a.made) (inserts_up_to n (all_of a)),
      c.self.invariant.inserted,
      c.inserts_up_to.ensures,
      c.inserts_up_to-2.ensures,
      c.saturating_sub.ensures,
      ap (λ (s : AgendaState). length (queue_at (length s.made) s.placed s.made)) c.self.view_is,
    )

pub overflow_add-put : goal.overflow_add-put
overflow_add-put c =
    let a = c.self.inside in
    omega (
      arith,
      few_up_to a.number a.placed.actions,
      few_up_to a.number a.posted.actions,
      length-append a.placed.actions a.posted.actions,
      c.count-count.ensures,
      c.inserts_up_to.ensures,
      c.inserts_up_to-2.ensures,
      ap (λ (s : AgendaState). length s.placed) c.self.view_is,
    )

-- What the closure of a channel's thread takes along may go to that thread.
use mathlib.Core.List.{List, [], ◌∷◌}
use base.Fml.{Lft}
use mir.Syntax.{Sym, Lifetime, w8}
use denote.RattleType.{RattleType}
use denote.Plain.{UInt}
use denote.Ref.{ShrRef}
use denote.Struct.Field.{row_field}
use denote.Struct.Tuple.{TupleAt, type_at, parts}
use denote.Param.Send.{IsSend, IsSync, AllSend, shr_send, sendable}
use denote.Param.SendFields.{FieldsHave, as_row_send, declared_send}
use Rattle.job_file.specs.contracts.jobs.Job as job
use Rattle.mil_trunk.specs.contracts.trunk.Trunk as trunk
use Rattle.mil_trunk.specs.contracts.trunk.Ticket as ticket
use Rattle.bench_run.specs.contracts.entry.Entry as entry
use Rattle.bench_run.specs.contracts.entry.EntryTagged.TheImpl.{ghosts}
use Rattle.bench_run.specs.contracts.channel.Room as room
use Rattle.bench_mail.specs.contracts.mailbox.Mailbox as mailbox
use Rattle.bench_run.proofs.Sent.{job_sync, mailbox_sync, trunk_sync, ticket_send, room_send}

byte_send : IsSend (UInt w8)
byte_send = search sendable

parts_send : (Ts : List RattleType) → AllSend Ts → FieldsHave IsSend (parts Ts)
parts_send [] s = tt
parts_send (T ∷ Ts) s = (as_row_send (row_field T) s.0, parts_send Ts s.1)

-- a closure may go where each of its captures may
closure_send : (ν : Sym) (Ts : List RattleType) → AllSend Ts → IsSend (TupleAt ν Ts)
closure_send ν Ts s = declared_send (type_at ν Ts) (parts_send Ts s)

module _ (ν : Sym) (ℓ₀ ℓ₁ ℓ₂ ℓ₃ ℓ₄ : Lifetime) (κ₀ κ₁ κ₂ κ₃ κ₄ : Lft) (R G : RattleType) where
  abbrev taken : List RattleType
  taken = ShrRef ℓ₀ κ₀ R ∷ ShrRef ℓ₁ κ₁ (trunk.the_row entry.the_row ghosts) ∷ ShrRef ℓ₂ κ₂ G ∷ UInt w8 ∷ ShrRef ℓ₃ κ₃ job.the_row ∷ ShrRef ℓ₄ κ₄ mailbox.the_row ∷ ticket.the_row entry.the_row ∷ room.the_row ∷ []

  pub taken_send : IsSync R → IsSync G → IsSend (TupleAt ν taken)
  taken_send r g = closure_send ν taken (
    shr_send ℓ₀ κ₀ R r,
    (shr_send ℓ₁ κ₁ (trunk.the_row entry.the_row ghosts) trunk_sync, (shr_send ℓ₂ κ₂ G g, (byte_send, (shr_send ℓ₃ κ₃ job.the_row job_sync, (shr_send ℓ₄ κ₄ mailbox.the_row mailbox_sync, (ticket_send, (room_send, tt))))))),
  )

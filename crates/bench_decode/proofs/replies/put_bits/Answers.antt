use Rattle.std.proofs.Common.{◌≡◌, ℕ, ◌+◌, ◌-◌, ◌*◌, ◌≤◌, ◌<◌, Bool, true, false, cond, List, [], ◌∷◌, ◌++◌, length, refl, sym, ap, ◌∙◌, arith}
use Rattle.std.specs.Prelude.{codes, ◌||◌, Option, None, Some}
use Rattle.std.proofs.lemmas.Bool.{ne_eqb}
use Rattle.bench_decode.specs.Waiting.{Waiting, drawn_on}
use Rattle.bench_decode.proofs.Drawing.{drawing, on-none, on-text, rises}
use Rattle.bench_decode.specs.BitText.{status_names}
use Rattle.bench_decode.proofs.replies.put_bits.Goals as goal

pub returns-clause-put : goal.returns-clause-put
unfolding status_names
returns-clause-put c = rw (c.put_name-9.ensures.put, c.put_name-8.ensures.put, c.put_name-7.ensures.put, c.put_name-6.ensures.put, c.put_name-5.ensures.put, c.put_name-4.ensures.put, c.put_name-3.ensures.put, c.put_name-2.ensures.put, c.put_name.ensures.put, c.has_message_error.ensures, c.has_instrumentation.ensures, c.has_service_request.ensures, c.has_reserved.ensures, c.has_broadcast_received.ensures, c.has_busy.ensures, c.has_subsystem_flag.ensures, c.has_control_acceptance.ensures, c.has_terminal_flag.ensures, c.of-word.ensures) (simp drawing)

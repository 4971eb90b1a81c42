-- Steps over the messages of a body, wherever in a file they stand: what a reader may know of a way before it goes it.
use Rattle.std.specs.Prelude.{◌≡◌, ℕ, ◌+◌, ◌-◌, ◌*◌, ◌≤◌, List, length, take, drop, Some, slice_get, Result, Ok, Err}
use Rattle.ch11_f1.specs.declared.error.BodyError.{BodyError}
use Rattle.ch11_f1.specs.BodyReading.{Message, messages_at}
use Rattle.ch11_reader.specs.declared.jumps.Jump.{Jump}

-- the bytes of a file between two places
abbrev pub between : ℕ → ℕ → List ℕ → List ℕ
between start end file = take (end - start) (drop start file)

-- whether messages could be read, or their first fault
abbrev pub body_verdict : Result (List Message) BodyError → Result ℕ BodyError
body_verdict (Ok ms) = Ok 0
body_verdict (Err e) = Err e

-- so many messages lead from one place to another: whatever end lies behind that, messages from the first place on are
-- judged as those that are left from the other place on
abbrev pub Leads : List ℕ → ℕ → ℕ → ℕ → Type 0
Leads file place count goal =
    (end left : ℕ) → goal ≤ end → end ≤ length file
    → body_verdict (messages_at (count + left) (between place end file))
    ≡ body_verdict (messages_at left (between goal end file))

-- no message
abbrev pub no_jump : Jump
no_jump = record { messages = 0; bytes = 0 }

-- a jump from a place keeps to messages
abbrev pub IsJump : List ℕ → ℕ → Jump → Type 0
IsJump file place jump = Leads file place jump.messages (place + jump.bytes)

-- jumps from every other place, the first one given
abbrev pub AreJumps : List ℕ → ℕ → List Jump → Type 0
AreJumps file first jumps = (i : ℕ) (jump : Jump) → slice_get jumps i ≡ Some jump → IsJump file (first + 2 * i) jump

-- bytes that are the rest of a file
pub record IsRest (file rest : List ℕ) : Type 0 where
  pub shorter : length rest ≤ length file
  pub place : rest ≡ drop (length file - length rest) file

-- The text of frames: the grammar of a script (own choice), and the tree of a text or its first fault.
use Rattle.std.specs.Prelude.{ℕ, zero, suc, nat_le, if◌then◌else◌, List, [], ◌∷◌, length, Result, Ok, Err, codes}
use Rattle.mil_word.specs.Timing.{least_gap}
use Rattle.frame_tree.specs.Tree.{Tree, send, retry, gap, repeat, choose, until, timed, nothing, chained, call, define}
use Rattle.frame_tree.specs.Bounds.{worst_messages, depth_in}
use Rattle.frame_tree.specs.Names.{is_name, Scope, meant_by, is_known}
use Rattle.frame_text.specs.Tokens.{tokens}
use Rattle.frame_text.specs.Reading.{Tokens, Failure, fails, at_first, cause_alone, TokenReading, ◌>>=◌, same_bytes}
use Rattle.frame_text.specs.Reading.{misplaced, past}
use Rattle.frame_text.specs.Words.{number_within, period_at}
use Rattle.frame_text.specs.Messages.{send_at}
use Rattle.frame_text.specs.Conditions.{condition_at}
use Rattle.frame_text.specs.declared.faults.Cause.{Cause}
use Rattle.frame_text.specs.declared.faults.Cause.TheVariants as cause
use Rattle.frame_text.specs.declared.keywords.FrameWord.{FrameWord}
use Rattle.frame_text.specs.declared.keywords.FrameWord.TheVariants as word

unfoldable pub frame_word : List ℕ → FrameWord
frame_word w =
    if same_bytes w (codes "send") then word.Send else
    if same_bytes w (codes "retry") then word.Retry else
    if same_bytes w (codes "gap") then word.Gap else
    if same_bytes w (codes "repeat") then word.Repeat else
    if same_bytes w (codes "if") then word.If else
    if same_bytes w (codes "until") then word.Until else
    if same_bytes w (codes "frame") then word.Timed else
    if same_bytes w (codes "call") then word.Call else
    word.NoFrame

abbrev pub Reader : Type 0
Reader = Tokens → TokenReading Tree

-- what stands behind an else, or nothing
unfoldable pub else_at : Reader → Reader
else_at block [] = Ok (nothing, [])
else_at block (w ∷ ts) = if same_bytes w (codes "else") then block ts else Ok (nothing, w ∷ ts)

-- behind the first word of a frame: what is sent once and again, what is repeated, what is chosen, what runs until a
-- condition holds, what has a period; block reads a block in its braces
abbrev pub retry_at : Reader
retry_at ts =
    number_within 1 8 ts
    >>= (λ n. past (codes "send") n.1 >>= (λ us. send_at us >>= (λ x. Ok (retry n.0 x.0.0 x.0.1, x.1))))

abbrev pub repeat_at : Reader → Reader
repeat_at block ts = number_within 1 10000 ts >>= (λ n. block n.1 >>= (λ b. Ok (repeat n.0 b.0, b.1)))

abbrev pub choice_at : Reader → Reader
choice_at block ts =
    condition_at 16 ts
    >>= (λ c. block c.1 >>= (λ a. else_at block a.1 >>= (λ b. Ok (choose c.0 a.0 b.0, b.1))))

abbrev pub until_at : Reader → Reader
until_at block ts =
    condition_at 16 ts
    >>= (λ c. past (codes "at") c.1
    >>= (λ us. past (codes "most") us
    >>= (λ vs. number_within 1 10000 vs >>= (λ n. block n.1 >>= (λ b. Ok (until c.0 n.0 b.0, b.1))))))

abbrev pub timed_at : Reader → Reader
timed_at block ts = period_at ts >>= (λ n. block n.1 >>= (λ b. Ok (timed n.0 b.0, b.1)))

-- the name of a definition
unfoldable pub label_at : Tokens → TokenReading (List ℕ)
label_at [] = fails cause.End []
label_at (w ∷ ts) = if is_name w then Ok (w, ts) else fails (misplaced w) (w ∷ ts)

-- behind the word call, with which the frame begins: a name in scope, where each name in scope has the depth of its
-- body, and no more than so many blocks in the body
abbrev pub call_of : Scope ℕ → ℕ → Tokens → Tokens → List ℕ × Tokens → TokenReading Tree
call_of ds d frame ts n =
    if is_known ds n.0 then (if nat_le (meant_by 0 ds n.0) d then Ok (call n.0, n.1) else fails cause.Depth frame)
    else fails cause.Name ts

abbrev pub call_at : Scope ℕ → ℕ → Tokens → Reader
call_at ds d frame ts = label_at ts >>= (λ n. call_of ds d frame ts n)

-- a frame by its first word
unfoldable pub frame_of : (Tokens → Reader) → Reader → FrameWord → List ℕ → Tokens → TokenReading Tree
frame_of calls block word.Send w ts = send_at ts >>= (λ x. Ok (send x.0.0 x.0.1, x.1))
frame_of calls block word.Retry w ts = retry_at ts
frame_of calls block word.Gap w ts = number_within least_gap 65535 ts >>= (λ n. Ok (gap n.0, n.1))
frame_of calls block word.Repeat w ts = repeat_at block ts
frame_of calls block word.If w ts = choice_at block ts
frame_of calls block word.Until w ts = until_at block ts
frame_of calls block word.Timed w ts = timed_at block ts
frame_of calls block word.Call w ts = calls (w ∷ ts) ts
frame_of calls block word.NoFrame w ts = fails (misplaced w) (w ∷ ts)

unfoldable pub frame_from : (Tokens → Reader) → Reader → Reader
frame_from calls block [] = fails cause.End []
frame_from calls block (w ∷ ts) = frame_of calls block (frame_word w) w ts

-- frames up to the closing brace; there are no more of them than tokens
unfoldable pub frames_at : Reader → ℕ → Reader
frames_at frame n [] = fails cause.End []
frames_at frame zero (w ∷ ts) = fails cause.End (w ∷ ts)
frames_at frame (suc n) (w ∷ ts) =
    if same_bytes w (codes "}") then Ok (nothing, ts)
    else (frame (w ∷ ts) >>= (λ x. frames_at frame n x.1 >>= (λ y. Ok (chained x.0 y.0, y.1))))

-- a block in its braces, inside the opening brace what inner reads
unfoldable pub block_from : Result Reader Cause → Reader
block_from inner [] = fails cause.End []
block_from inner (w ∷ ts) =
    if same_bytes w (codes "{") then (at_first (w ∷ ts) inner >>= (λ reader. reader ts))
    else fails (misplaced w) (w ∷ ts)

-- what reads a block's frames, where at most so many blocks may stand in one another, this one among them
unfoldable pub inner_at : Scope ℕ → ℕ → Result Reader Cause
inner_at ds zero = Err cause.Depth
inner_at ds (suc d) = Ok (λ ts. frames_at (frame_from (call_at ds d) (block_from (inner_at ds d))) (length ts) ts)

abbrev pub block_at : Scope ℕ → ℕ → Reader
block_at ds d = block_from (inner_at ds d)

-- a frame with at most so many blocks in one another
abbrev pub frame_at : Scope ℕ → ℕ → Reader
frame_at ds d ts = frame_from (call_at ds d) (block_at ds d) ts

-- frames up to the end; there are no more of them than tokens
unfoldable pub main_at : Scope ℕ → ℕ → Tokens → Result Tree Failure
main_at ds n [] = Ok nothing
main_at ds zero (w ∷ ts) = fails cause.End (w ∷ ts)
main_at ds (suc n) (w ∷ ts) = frame_at ds 16 (w ∷ ts) >>= (λ x. main_at ds n x.1 >>= (λ t. Ok (chained x.0 t)))

-- a name that is not in scope yet
abbrev pub fresh : Scope ℕ → Tokens → List ℕ × Tokens → TokenReading (List ℕ)
fresh ds ts n = if is_known ds n.0 then fails cause.Name ts else Ok n

abbrev pub fresh_name_at : Scope ℕ → Tokens → TokenReading (List ℕ)
fresh_name_at ds ts = label_at ts >>= (λ n. fresh ds ts n)

-- behind the word define: a fresh name, and the body in braces, which are no block of their own
abbrev pub definition_at : Scope ℕ → Tokens → TokenReading (List ℕ × Tree)
definition_at ds ts = fresh_name_at ds ts >>= (λ n. block_at ds 17 n.1 >>= (λ b. Ok ((n.0, b.0), b.1)))

-- definitions, at most so many, and the frames behind them
unfoldable pub script_at : ℕ → Scope ℕ → Tokens → Result Tree Failure
script_at k ds [] = Ok nothing
script_at zero ds (w ∷ ts) =
    if same_bytes w (codes "define") then fails cause.Definitions (w ∷ ts)
    else main_at ds (length (w ∷ ts)) (w ∷ ts)
script_at (suc k) ds (w ∷ ts) =
    if same_bytes w (codes "define")
    then (definition_at ds ts
    >>= (λ x. script_at k ((x.0.0, depth_in ds x.0.1) ∷ ds) x.1 >>= (λ t. Ok (define x.0.0 x.0.1 t))))
    else main_at ds (length (w ∷ ts)) (w ∷ ts)

-- a script sends at most 1,000,000 messages at worst
abbrev pub bounded : Tokens → Tree → Result Tree Failure
bounded ts t = if nat_le (worst_messages t) 1000000 then Ok t else fails cause.Messages ts

-- the tree of a text, or its first fault from left to right
abbrev pub whole_script : List ℕ → Result Tree Failure
whole_script text = let ts = tokens text in script_at 32 [] ts >>= (λ t. bounded ts t)

abbrev pub tree_of_text : List ℕ → Result Tree Cause
tree_of_text text = cause_alone (whole_script text)

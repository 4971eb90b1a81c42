-- Walks over messages, one by one and by jumps.
use Rattle.std.proofs.Common.{◌≡◌, ◌≢◌, ◌⊎◌, inl, inr, ℕ, zero, suc, ◌-◌, ◌+◌, ◌*◌, ◌/◌, ◌%◌, ◌≤◌, ◌<◌, true, false, eqb, ltb, List, ◌∷◌, ◌++◌, length, take, drop, set, get_or, Option, None, Some, Result, Ok, Err, refl, sym, ap, subst, ◌∙◌, arith}
use Rattle.std.specs.Prelude.{slice_get}
use Rattle.std.specs.Option.{unwrap_or}
use Rattle.std.proofs.lemmas.Bool.{cases_eq, le-ltb, lt-ltb}
use Rattle.std.proofs.lemmas.List.{drop-drop, drop-take, take-append-drop, length-drop, length-take-le, length-set, get_or-set_same, get_or-set_other}
use Rattle.std.proofs.lemmas.Option.{slice_get_within, slice_get-get_or, get_or_from_slice_get, unwrap_or-slice_get}
use Rattle.byteorder.specs.Endian.{little_number}
use Rattle.ch11_f1.specs.declared.error.BodyError.{BodyError}
use Rattle.ch11_f1.specs.declared.error.BodyError.TheVariants.{Odd, End}
use Rattle.ch11_f1.specs.BodyReading.{◌>>=◌, Message, message_at, messages_at, messages_in, count_in}
use Rattle.ch11_header.specs.declared.header.Header.{Header}
use Rattle.ch11_header.specs.HeaderBytes.{number_at}
use Rattle.ch11_header.specs.HeaderReading.{header_in, body_start}
use Rattle.ch11_reader.specs.declared.error.PacketFault.TheVariants as faults
use Rattle.ch11_reader.specs.Recording.{holds_messages, body_of, packet_at}
use Rattle.ch11_reader.specs.declared.jumps.Jump.{Jump}
use Rattle.ch11_reader.specs.Walking.{between, body_verdict, no_jump, Leads, IsJump, AreJumps}
use Rattle.ch11_reader.proofs.Joined.{number_front}

-- ---- ways one behind the other

pub chain : (file : List ℕ) (place a next b goal : ℕ) → next ≤ goal → Leads file place a next → Leads file next b goal → Leads file place (a + b) goal
chain file place a next b goal order first second end left after within =
    let count : a + b + left ≡ a + (b + left) = omega arith in
    rw count (first end (b + left) (omega (arith, order, after)) within ∙ second end left after within)

pub stays : (file : List ℕ) (place : ℕ) → Leads file place 0 (place + 0)
stays file place end left after within =
    let count : 0 + left ≡ left = omega arith in
    let same : place + 0 ≡ place = omega arith in
    rw (count, same) refl

-- ---- one message

length_between : (start end : ℕ) (file : List ℕ) → start ≤ end → end ≤ length file → length (between start end file) ≡ end - start
length_between start end file order within = length-take-le (end - start) (drop start file) (omega (arith, order, within, length-drop start file))

-- a number in the bytes between two places is that of the file
number_between : (place k size end : ℕ) (file : List ℕ) → place + (k + size) ≤ end → end ≤ length file → number_at k size (between place end file) ≡ little_number size (drop (place + k) file)
number_between place k size end file fits within =
    let front = number_front k size (between place end file) (drop (end - place) (drop place file)) (omega (arith, fits, length_between place end file (omega (arith, fits)) within)) in
    let whole : between place end file ++ drop (end - place) (drop place file) ≡ drop place file = take-append-drop (end - place) (drop place file) in
    sym front ∙ ap (number_at k size) whole ∙ ap (little_number size) (drop-drop k place file)

-- what stands behind some of the bytes between two places
behind_between : (place size end : ℕ) (file : List ℕ) → place + size ≤ end → drop size (between place end file) ≡ between (place + size) end file
behind_between place size end file fits =
    let count : end - place ≡ size + (end - (place + size)) = omega (arith, fits) in
    rw count (drop-take size (end - (place + size)) (drop place file)) ∙ ap (take (end - (place + size))) (drop-drop size place file)

abbrev message_with : ℕ → List ℕ → Message
message_with size bytes = record { stamp = number_at 0 8 bytes; block = number_at 8 2 bytes; gaps = number_at 10 2 bytes; bytes = take size (drop 14 bytes) }

splits : (size : ℕ) (bytes : List ℕ) → ltb (length bytes) 14 ≡ false → number_at 12 2 bytes ≡ size → eqb (size % 2) 1 ≡ false → ltb (length bytes) (14 + size) ≡ false
    → message_at bytes ≡ Ok (message_with size bytes, drop size (drop 14 bytes))
unfolding message_at
splits size bytes long is even fits = rw (long, is, even, fits) refl

verdict_cons : (m : Message) (read : Result (List Message) BodyError) → body_verdict (read >>= λ others. Ok (m ∷ others)) ≡ body_verdict read
verdict_cons m (Ok ms) = refl
verdict_cons m (Err e) = refl

one_past : (left : ℕ) (m : Message) (bytes after : List ℕ) → message_at bytes ≡ Ok (m, after) → body_verdict (messages_at (suc left) bytes) ≡ body_verdict (messages_at left after)
unfolding messages_at
one_past left m bytes after is = rw is (verdict_cons m (messages_at left after))

-- the message at a place, where its length is even and it ends in the file
pub leads_one : (file : List ℕ) (place size : ℕ) → little_number 2 (drop (place + 12) file) ≡ size → eqb (size % 2) 1 ≡ false → Leads file place 1 (place + (14 + size))
leads_one file place size is even end left after within =
    let bytes : List ℕ = between place end file in
    let long = length_between place end file (omega (arith, after)) within in
    let known : number_at 12 2 bytes ≡ size = number_between place 12 2 end file (omega (arith, after)) within ∙ is in
    let split = splits size bytes (le-ltb (length bytes) 14 (omega (arith, after, long))) known even (le-ltb (length bytes) (14 + size) (omega (arith, after, long))) in
    let behind : drop size (drop 14 bytes) ≡ between (place + (14 + size)) end file = drop-drop size 14 bytes ∙ behind_between place (14 + size) end file after in
    let count : 1 + left ≡ suc left = omega arith in
    rw count (one_past left (message_with size bytes) bytes (drop size (drop 14 bytes)) split) ∙ ap (λ (rest : List ℕ). body_verdict (messages_at left rest)) behind

-- ---- the faults of a message

pub cut_in_head : (file : List ℕ) (place end : ℕ) → place ≤ end → end ≤ length file → end - place < 14 → message_at (between place end file) ≡ Err End
unfolding message_at
cut_in_head file place end order within short =
    let test : ltb (length (between place end file)) 14 ≡ true = lt-ltb _ _ (omega (arith, short, length_between place end file order within)) in
    rw test refl

abbrev size_at : ℕ → ℕ → List ℕ → ℕ
size_at place end file = number_at 12 2 (between place end file)

pub odd_length : (file : List ℕ) (place end size : ℕ) → place + 14 ≤ end → end ≤ length file → little_number 2 (drop (place + 12) file) ≡ size → eqb (size % 2) 1 ≡ true → message_at (between place end file) ≡ Err Odd
unfolding message_at
odd_length file place end size long within is odd =
    let test : ltb (length (between place end file)) 14 ≡ false = le-ltb _ _ (omega (arith, long, length_between place end file (omega (arith, long)) within)) in
    let known : size_at place end file ≡ size = number_between place 12 2 end file (omega (arith, long)) within ∙ is in
    rw (test, known, odd) refl

pub cut_in_words : (file : List ℕ) (place end size : ℕ) → place + 14 ≤ end → end ≤ length file → little_number 2 (drop (place + 12) file) ≡ size → eqb (size % 2) 1 ≡ false → end - place < 14 + size
    → message_at (between place end file) ≡ Err End
unfolding message_at
cut_in_words file place end size long within is even short =
    let exact = length_between place end file (omega (arith, long)) within in
    let test : ltb (length (between place end file)) 14 ≡ false = le-ltb _ _ (omega (arith, long, exact)) in
    let known : size_at place end file ≡ size = number_between place 12 2 end file (omega (arith, long)) within ∙ is in
    let cut : ltb (length (between place end file)) (14 + size) ≡ true = lt-ltb _ _ (omega (arith, short, exact)) in
    rw (test, known, even, cut) refl

-- a fault of the first message is that of all
pub first_fault : (left : ℕ) (bytes : List ℕ) (e : BodyError) → 0 < left → message_at bytes ≡ Err e → body_verdict (messages_at left bytes) ≡ Err e
unfolding messages_at
first_fault zero bytes e some is = absurd (omega arith)
first_fault (suc left) bytes e some is = rw is refl

err_of : (read : Result (List Message) BodyError) (e : BodyError) → body_verdict read ≡ Err e → read ≡ Err e
err_of (Ok ms) e is = absurd cc
err_of (Err d) e is = cc

pub fault_of_all : (count left : ℕ) (bytes rest : List ℕ) (e : BodyError) → body_verdict (messages_at left rest) ≡ body_verdict (messages_at count bytes) → 0 < left → message_at rest ≡ Err e → messages_at count bytes ≡ Err e
fault_of_all count left bytes rest e so_far some is = err_of (messages_at count bytes) e (sym so_far ∙ first_fault left rest e some is)

-- ---- tables of jumps

pub jump_kept : (file : List ℕ) (first i : ℕ) (jumps : List Jump) (jump : Jump) → i < length jumps → IsJump file (first + 2 * i) jump → AreJumps file first jumps → AreJumps file first (set jumps i jump)
jump_kept file first i jumps jump low is all k other there = go (cases_eq k i)
  where
    at : get_or (set jumps i jump) k no_jump ≡ other
    at = get_or_from_slice_get (set jumps i jump) k other no_jump there

    within : k < length jumps
    within = omega (arith, slice_get_within (set jumps i jump) k other there, length-set jumps i jump)

    go : (k ≡ i) ⊎ (k ≢ i) → IsJump file (first + 2 * k) other
    go (inl same) =
        let here : jump ≡ other = sym (get_or-set_same jumps i jump no_jump low) ∙ ap (λ (n : ℕ). get_or (set jumps i jump) n no_jump) (sym same) ∙ at in
        rw same (subst (IsJump file (first + 2 * i)) here is)
    go (inr apart) =
        let here : get_or jumps k no_jump ≡ other = sym (get_or-set_other jumps i k jump no_jump apart) ∙ at in
        all k other (slice_get-get_or jumps k no_jump within ∙ ap Some here)

pub entry_is_jump : (file : List ℕ) (first i : ℕ) (jumps : List Jump) → AreJumps file first jumps → IsJump file (first + 2 * i) (get_or jumps i no_jump)
entry_is_jump file first i jumps all = subst (IsJump file (first + 2 * i)) (unwrap_or-slice_get jumps i no_jump) (go (slice_get jumps i) refl)
  where
    go : (there : Option Jump) → slice_get jumps i ≡ there → IsJump file (first + 2 * i) (unwrap_or there no_jump)
    go None is = stays file (first + 2 * i)
    go (Some jump) is = all i jump is

-- a jump over a message and two more jumps
pub three_jumps : (file : List ℕ) (place next : ℕ) (first second : Jump) → place ≤ next → Leads file place 1 next → IsJump file next first → IsJump file (next + first.bytes) second
    → Leads file place (1 + first.messages + second.messages) (place + (next - place + first.bytes + second.bytes))
three_jumps file place next first second order one two three =
    let two_of = chain file place 1 next first.messages (next + first.bytes) (omega arith) one two in
    let all = chain file place (1 + first.messages) (next + first.bytes) second.messages (next + first.bytes + second.bytes) (omega arith) two_of three in
    let goal : next + first.bytes + second.bytes ≡ place + (next - place + first.bytes + second.bytes) = omega (arith, order) in
    subst (Leads file place (1 + first.messages + second.messages)) goal all

-- the jump of a table at a place, even or odd
pub even_jump : (file : List ℕ) (place : ℕ) (jumps : List Jump) → place % 2 ≡ 0 → AreJumps file 0 jumps → IsJump file place (get_or jumps (place / 2) no_jump)
even_jump file place jumps even all =
    let here : 0 + 2 * (place / 2) ≡ place = omega (arith, even) in
    subst (λ (n : ℕ). IsJump file n (get_or jumps (place / 2) no_jump)) here (entry_is_jump file 0 (place / 2) jumps all)

pub odd_jump : (file : List ℕ) (place : ℕ) (jumps : List Jump) → (place % 2 ≡ 0 → ⊥) → AreJumps file 1 jumps → IsJump file place (get_or jumps (place / 2) no_jump)
odd_jump file place jumps odd all =
    let here : 1 + 2 * (place / 2) ≡ place = omega (arith, odd) in
    subst (λ (n : ℕ). IsJump file n (get_or jumps (place / 2) no_jump)) here (entry_is_jump file 1 (place / 2) jumps all)

pub even_kept : (file : List ℕ) (place : ℕ) (jumps : List Jump) (jump : Jump) → place % 2 ≡ 0 → place / 2 < length jumps → IsJump file place jump → AreJumps file 0 jumps → AreJumps file 0 (set jumps (place / 2) jump)
even_kept file place jumps jump even low is all =
    let here : place ≡ 0 + 2 * (place / 2) = omega (arith, even) in
    jump_kept file 0 (place / 2) jumps jump low (subst (λ (n : ℕ). IsJump file n jump) here is) all

pub odd_kept : (file : List ℕ) (place : ℕ) (jumps : List Jump) (jump : Jump) → (place % 2 ≡ 0 → ⊥) → place / 2 < length jumps → IsJump file place jump → AreJumps file 1 jumps → AreJumps file 1 (set jumps (place / 2) jump)
odd_kept file place jumps jump odd low is all =
    let here : place ≡ 1 + 2 * (place / 2) = omega (arith, odd) in
    jump_kept file 1 (place / 2) jumps jump low (subst (λ (n : ℕ). IsJump file n jump) here is) all

-- ---- the rest of a file

-- ---- the fault of a body

in_body : (body : List ℕ) (count : ℕ) (behind : List ℕ) (e : BodyError) → 4 ≤ length body → count_in body ≡ count → drop 4 body ≡ behind → messages_at count behind ≡ Err e → messages_in body ≡ Err e
unfolding messages_in
in_body body count behind e some counted cut is = rw (le-ltb (length body) 4 some, counted, cut) is

in_packet : (bytes : List ℕ) (h : Header) (e : BodyError) → header_in bytes ≡ Ok h → h.packet_length ≤ length bytes → holds_messages h ≡ true → messages_in (body_of h bytes) ≡ Err e → packet_at bytes ≡ Err (faults.Body e)
unfolding packet_at
in_packet bytes h e read whole holds is = rw (read, le-ltb (length bytes) h.packet_length whole, holds, is) refl

-- the fault of the messages in the body of the packet at a place
pub body_fault : (file bytes behind body : List ℕ) (place start count : ℕ) (h : Header) (e : BodyError) → bytes ≡ drop place file → behind ≡ drop start bytes → body ≡ take h.data_length behind → start ≡ body_start h
    → place ≤ length file → header_in bytes ≡ Ok h → h.packet_length ≤ length bytes → body_start h + h.data_length ≤ h.packet_length → holds_messages h ≡ true → 4 ≤ length body → count ≡ count_in body
    → messages_at count (between (place + start + 4) (place + start + h.data_length) file) ≡ Err e → packet_at (drop place file) ≡ Err (faults.Body e)
body_fault file bytes behind body place start count h e bytes_is behind_is body_is start_is within read whole room holds some counted is =
    let cut : body ≡ between (place + start) (place + start + h.data_length) file =
    body_is ∙ ap (take h.data_length) (behind_is ∙ ap (drop start) bytes_is ∙ drop-drop start place file) ∙ ap (λ (n : ℕ). take n (drop (place + start) file)) (omega arith) in
    let size : length body ≡ place + start + h.data_length - (place + start) =
    ap length cut ∙ length_between (place + start) (place + start + h.data_length) file (omega arith) (omega (arith, within, whole, room, start_is, ap length bytes_is, length-drop place file)) in
    let front : drop 4 body ≡ between (place + start + 4) (place + start + h.data_length) file = ap (drop 4) cut ∙ behind_between (place + start) 4 (place + start + h.data_length) file (omega (arith, some, size)) in
    let same : body ≡ body_of h bytes = body_is ∙ ap (take h.data_length) (behind_is ∙ ap (λ (n : ℕ). drop n bytes) start_is) in
    let all : messages_in (body_of h bytes) ≡ Err e = ap messages_in (sym same) ∙ in_body body count (between (place + start + 4) (place + start + h.data_length) file) e some (sym counted) front is in
    ap packet_at (sym bytes_is) ∙ in_packet bytes h e read whole holds all

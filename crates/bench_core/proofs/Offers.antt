-- What a channel offers, and what that makes of the bench.
use Rattle.std.proofs.Common.{◌≡◌, ℕ, zero, suc, ◌+◌, ◌<◌, ◌≤◌, Bool, true, false, not, ◌||◌, cond, List, [], ◌∷◌, ◌++◌, length, take, slice_get, slice_set, slice_index_or, Option, Some, None, refl, sym, ap, ◌∙◌, arith, subst}
use Rattle.std.specs.Option.{option_to_list}
use Rattle.std.specs.List.{AllByRecursion}
use Rattle.std.proofs.lemmas.List.{append-nil}
use Rattle.ch11_f1.specs.declared.Record.{Record}
use Rattle.bc_machine.specs.declared.placed.Placed.{Placed}
use Rattle.bc_machine.specs.Running.{MachineState}
use Rattle.job_file.specs.Spelled.{ChannelJob}
use Rattle.job_file.specs.Meaning.{records}
use Rattle.job_file.specs.Machines.{IsOf}
use Rattle.bench_report.specs.Reports.{Rises}
use Rattle.ch11_builder.specs.Recorded.{IsRecorded}
use Rattle.ch11_recording.specs.declared.item.Item.{Item}
use Rattle.ch11_recording.specs.declared.item.Item.TheVariants as item
use Rattle.ch11_recording.specs.Items.{numbered}
use Rattle.bench_core.specs.Bench.{ChannelState, Bench, all_records, has_room, with_message, with_end, message_of, next_offered, channel_offers, offered}
use Rattle.bench_core.specs.Channels.{after_next, queued_next, next_in}

-- ---- a channel's numbers and records

pub rises_more : (above most : ℕ) (ns : List ℕ) → Rises above most ns → Rises above (most + 1) ns
rises_more above most [] all = tt
rises_more above most (n ∷ ns) all = (all.0, omega (arith, all.1), rises_more n most ns all.2)

pub rises_next : (above most : ℕ) (ns : List ℕ) → above ≤ most → Rises above most ns → Rises above (most + 1) (ns ++ (most + 1) ∷ [])
rises_next above most [] low all = (omega (arith, low), omega arith, tt)
rises_next above most (n ∷ ns) low all = (all.0, omega (arith, all.1), rises_next n most ns all.1 all.2)

abbrev pub AreRecorded : List Record → Type 0
AreRecorded rs = AllByRecursion (λ r. IsRecorded (numbered 0 r)) rs

pub recorded_next : (rs : List Record) (made : ℕ) (r : Record) → slice_get rs made ≡ Some r → AreRecorded (take made rs) → IsRecorded (numbered 0 r) → AreRecorded (take (made + 1) rs)
recorded_next [] made r at all last = absurd cc
recorded_next (x ∷ rs) zero r at all last = let same : r ≡ x = cc in (subst (λ (y : Record). IsRecorded (numbered 0 y)) same last, tt)
recorded_next (x ∷ rs) (suc made) r at all last =
    let longer : suc (made + 1) ≡ suc made + 1 = omega arith in
    subst (λ (k : ℕ). AreRecorded (take k (x ∷ rs))) longer (all.0, recorded_next rs made r at all.1 last)

pub past_end : (rs : List Record) (made : ℕ) → made ≡ length rs → slice_get rs made ≡ None
past_end [] made is = refl
past_end (r ∷ rs) zero is = absurd (omega (arith, is))
past_end (r ∷ rs) (suc made) is = past_end rs made (omega (arith, is))

-- ---- a controller that went on

-- its placed actions are those that it had
pub still_of : (job : ChannelJob) (m n : MachineState) → IsOf job m.placed n → IsOf job n.placed n
still_of job m n of = subst (λ (ps : List Placed). IsOf job ps n) (sym of.actions) of

pub recorded_on : (job : ChannelJob) (m n : MachineState) (made : ℕ) → IsOf job m.placed n → n.point.number ≡ made → AreRecorded (take made (records job m.placed))
    → AreRecorded (take n.point.number (records job n.placed))
recorded_on job m n made of is all =
    subst (λ (k : ℕ). AreRecorded (take k (records job n.placed))) (sym is) (subst (λ (ps : List Placed). AreRecorded (take made (records job ps))) (sym of.actions) all)

-- ---- lists, one of them changed

pub set_same : {X : Type 0} (xs : List X) (i : ℕ) (x : X) → slice_get xs i ≡ Some x → slice_set xs i x ≡ xs
set_same [] i x at = refl
set_same {X} (y ∷ xs) zero x at = let here : x ≡ y = cc in ap (λ (z : X). z ∷ xs) here
set_same {X} (y ∷ xs) (suc i) x at = ap (λ (zs : List X). y ∷ zs) (set_same xs i x at)

pub all_set_to : {X : Type 0} (P : X → Type 0) (xs : List X) (i : ℕ) (v : X) → AllByRecursion P xs → P v → AllByRecursion P (slice_set xs i v)
all_set_to P [] i v all new = tt
all_set_to P (x ∷ xs) zero v all new = (new, all.1)
all_set_to P (x ∷ xs) (suc i) v all new = (all.0, all_set_to P xs i v all.1 new)

-- ---- the bench after an offer

abbrev pub offer_made : ℕ → Bench → ChannelState → Option Item → Bench
offer_made i b l queued = record { channels = slice_set b.channels i l; capacity = b.capacity; queue = b.queue ++ option_to_list queued; taken = b.taken }

message_made : (i : ℕ) (b : Bench) (l : ChannelState) (r : Record) (room : Bool)
    → offer_made i b (with_message l room) (cond room (Some (message_of l r)) None)
    ≡ record { channels = slice_set b.channels i (with_message l room); capacity = b.capacity; queue = cond room (b.queue ++ message_of l r ∷ []) b.queue; taken = b.taken }
message_made i b l r true = refl
message_made i b l r false =
    ap (λ (q : List Item). record { channels = slice_set b.channels i (with_message l false); capacity = b.capacity; queue = q; taken = b.taken }) (append-nil b.queue)

end_made : (i : ℕ) (b : Bench) (l : ChannelState) (stays : Bool) → slice_get b.channels i ≡ Some l
    → offer_made i b (cond stays l (with_end l)) (cond stays None (Some (item.End l.channel)))
    ≡ cond stays b (record { channels = slice_set b.channels i (with_end l); capacity = b.capacity; queue = b.queue ++ item.End l.channel ∷ []; taken = b.taken })
end_made i b l true at =
    ap (λ (q : List Item). record { channels = slice_set b.channels i l; capacity = b.capacity; queue = q; taken = b.taken }) (append-nil b.queue)
    ∙ ap (λ (ls : List ChannelState). record { channels = ls; capacity = b.capacity; queue = b.queue; taken = b.taken }) (set_same b.channels i l at)
end_made i b l false at = refl

next_made : (i : ℕ) (b : Bench) (l : ChannelState) (next : Option Record) → slice_get b.channels i ≡ Some l
    → offer_made i b (after_next l next (has_room b)) (queued_next l next (has_room b)) ≡ next_offered i l next b
next_made i b l (Some r) at = message_made i b l r (has_room b)
next_made i b l None at = end_made i b l (l.ended || not (has_room b)) at

pub offer_is : (i : ℕ) (b : Bench) (l : ChannelState) → slice_get b.channels i ≡ Some l
    → offer_made i b (after_next l (next_in l) (has_room b)) (queued_next l (next_in l) (has_room b)) ≡ offered i b
offer_is i b l at = next_made i b l (next_in l) at ∙ ap (λ (o : Option ChannelState). channel_offers i o b) (sym at)

-- ---- what comes next of a channel

next_ended : (l : ChannelState) → l.ended ≡ true → next_in l ≡ None
next_ended l is = ap (λ (ended : Bool). cond ended None (slice_get (all_records l) l.made)) is

pub next_none : (l : ChannelState) → slice_get (all_records l) l.made ≡ None → next_in l ≡ None
next_none l none = go l.ended
  where
    go : (ended : Bool) → cond ended None (slice_get (all_records l) l.made) ≡ None
    go true = refl
    go false = none

pub next_some : (l : ChannelState) (r : Record) → l.ended ≡ false → slice_get (all_records l) l.made ≡ Some r → next_in l ≡ Some r
next_some l r going at = ap (λ (ended : Bool). cond ended None (slice_get (all_records l) l.made)) going ∙ at

-- a channel behind its end mark stays as it is
pub ended_stays : (l : ChannelState) (room : Bool) → l.ended ≡ true → l ≡ after_next l (next_in l) room
ended_stays l room is =
    sym (ap (λ (o : Option Record). after_next l o room) (next_ended l is) ∙ ap (λ (ended : Bool). cond (ended || not room) l (with_end l)) is)

pub ended_gives : (l : ChannelState) (room : Bool) → l.ended ≡ true → None ≡ queued_next l (next_in l) room
ended_gives l room is =
    sym (ap (λ (o : Option Record). queued_next l o room) (next_ended l is) ∙ ap (λ (ended : Bool). cond (ended || not room) None (Some (item.End l.channel))) is)

-- ---- a channel after its last message, and after a message

ended_shape : (l : ChannelState) (e room : Bool)
    → ◌≡◌ {A = ChannelState} (record { channel = l.channel; job = l.job; placed = l.placed; made = l.made; refused = l.refused; ended = e || room })
    (cond (e || not room) (record { channel = l.channel; job = l.job; placed = l.placed; made = l.made; refused = l.refused; ended = e }) (with_end l))
ended_shape l true room = refl
ended_shape l false true = refl
ended_shape l false false = refl

pub ended_channel : (l : ChannelState) (room : Bool) (placed : List Placed) (made : ℕ) (refused : List ℕ) (ended : Bool) → next_in l ≡ None → placed ≡ l.placed → made ≡ l.made → refused ≡ l.refused → ended ≡ (l.ended || room)
    → ◌≡◌ {A = ChannelState} (record { channel = l.channel; job = l.job; placed = placed; made = made; refused = refused; ended = ended }) (after_next l (next_in l) room)
ended_channel l room placed made refused ended none acts is same marked =
    ap (λ (ps : List Placed). record { channel = l.channel; job = l.job; placed = ps; made = made; refused = refused; ended = ended }) acts
    ∙ ap (λ (k : ℕ). record { channel = l.channel; job = l.job; placed = l.placed; made = k; refused = refused; ended = ended }) is
    ∙ ap (λ (ns : List ℕ). record { channel = l.channel; job = l.job; placed = l.placed; made = l.made; refused = ns; ended = ended }) same
    ∙ ap (λ (e : Bool). record { channel = l.channel; job = l.job; placed = l.placed; made = l.made; refused = l.refused; ended = e }) marked
    ∙ ended_shape l l.ended room
    ∙ sym (ap (λ (o : Option Record). after_next l o room) none)

pub ended_item : (l : ChannelState) (room : Bool) → next_in l ≡ None → cond (l.ended || not room) None (Some (item.End l.channel)) ≡ queued_next l (next_in l) room
ended_item l room none = sym (ap (λ (o : Option Record). queued_next l o room) none)

message_shape : (l : ChannelState) (r : Record) (room : Bool)
    → ◌≡◌ {A = ChannelState} (record { channel = l.channel; job = l.job; placed = l.placed; made = l.made + 1; refused = cond room l.refused (l.refused ++ (l.made + 1) ∷ []); ended = l.ended }) (with_message l room)
message_shape l r room = refl

pub message_channel : (l : ChannelState) (r : Record) (room : Bool) (placed : List Placed) (made number : ℕ) (old refused : List ℕ) → next_in l ≡ Some r → placed ≡ l.placed → made ≡ l.made + 1 → number ≡ made → old ≡ l.refused
    → refused ≡ cond room old (old ++ number ∷ [])
    → ◌≡◌ {A = ChannelState} (record { channel = l.channel; job = l.job; placed = placed; made = made; refused = refused; ended = l.ended }) (after_next l (next_in l) room)
message_channel l r room placed made number old refused at acts is same kept listed =
    ap (λ (ps : List Placed). record { channel = l.channel; job = l.job; placed = ps; made = made; refused = refused; ended = l.ended }) acts
    ∙ ap (λ (ns : List ℕ). record { channel = l.channel; job = l.job; placed = l.placed; made = made; refused = ns; ended = l.ended })
    (listed ∙ ap (λ (k : ℕ). cond room old (old ++ k ∷ [])) same ∙ ap (λ (ns : List ℕ). cond room ns (ns ++ made ∷ [])) kept)
    ∙ ap (λ (k : ℕ). record { channel = l.channel; job = l.job; placed = l.placed; made = k; refused = cond room l.refused (l.refused ++ k ∷ []); ended = l.ended }) is
    ∙ message_shape l r room
    ∙ sym (ap (λ (o : Option Record). after_next l o room) at)

pub message_item : (l : ChannelState) (r : Record) (room : Bool) (number : ℕ) → next_in l ≡ Some r → number ≡ l.made + 1
    → cond room (Some (item.Message l.channel number r)) None ≡ queued_next l (next_in l) room
message_item l r room number at is =
    ap (λ (k : ℕ). cond room (Some (item.Message l.channel k r)) None) is ∙ sym (ap (λ (o : Option Record). queued_next l o room) at)

rises_either : (room : Bool) (most : ℕ) (ns : List ℕ) → Rises 0 most ns → Rises 0 (most + 1) (cond room ns (ns ++ (most + 1) ∷ []))
rises_either true most ns all = rises_more 0 most ns all
rises_either false most ns all = rises_next 0 most ns (omega arith) all

pub rises_message : (room : Bool) (most made number : ℕ) (old ns refused : List ℕ) → made ≡ most + 1 → number ≡ made → refused ≡ old → Rises 0 most old
    → ns ≡ cond room refused (refused ++ number ∷ []) → Rises 0 made ns
rises_message room most made number old ns refused is same kept all listed =
    let whole : ns ≡ cond room old (old ++ (most + 1) ∷ []) =
    listed ∙ ap (λ (k : ℕ). cond room refused (refused ++ k ∷ [])) (same ∙ is) ∙ ap (λ (xs : List ℕ). cond room xs (xs ++ (most + 1) ∷ [])) kept in
    subst (λ (k : ℕ). Rises 0 k ns) (sym is) (subst (Rises 0 (most + 1)) (sym whole) (rises_either room most old all))

pub there : {X : Type 0} (xs : List X) (i : ℕ) (x d : X) → i < length xs → x ≡ slice_index_or xs i d → slice_get xs i ≡ Some x
there [] i x d low is = absurd (omega (arith, low))
there {X} (y ∷ xs) zero x d low is = ap (λ (z : X). Some z) (sym is)
there (y ∷ xs) (suc i) x d low is = there xs i x d (omega (arith, low)) is

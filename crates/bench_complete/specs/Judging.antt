-- What is refused (own choice).
use Rattle.std.specs.Prelude.{◌≡◌, ◌⊎◌, ℕ, ◌+◌, ◌-◌, ◌/◌, ◌<◌, ◌≤◌, ◌^◌, ◌++◌, drop, ◌==◌, ◌&&◌, not, Bool, true, false}
use Rattle.std.specs.Prelude.{nat_lt, is_some, if◌then◌else◌, List, [], length, Option, None, Some, option_map, Result}
use Rattle.std.specs.Prelude.{Ok, Err}
use Rattle.std.specs.List.{list_any, AllByRecursion}
use Rattle.ch11_header.specs.Kinds.{setup_record, time_data}
use Rattle.ch11_header.specs.declared.header.Header.{Header}
use Rattle.ch11_reader.specs.declared.error.Refusal.{Refusal}
use Rattle.ch11_reader.specs.Recording.{Found, body_of, found_or_none, packet_messages, packet_at}
use Rattle.bench_clock.specs.TimeBody.{is_time_body}
use Rattle.bench_complete.specs.declared.additions.Additions.{Additions}
use Rattle.bench_complete.specs.declared.extent.Extent.{Extent}
use Rattle.bench_complete.specs.declared.fault.CompleteFault.{CompleteFault}
use Rattle.bench_complete.specs.declared.fault.CompleteFault.TheVariants as faults
use Rattle.bench_complete.specs.declared.placed.Placed.{Placed}
use Rattle.bench_complete.specs.declared.times.Times.{Times}
use Rattle.bench_complete.specs.Pieces.{kept_entries, kept_packets}
use Rattle.bench_complete.specs.Merging.{of_channel}
use Rattle.bench_complete.specs.TimePackets.{times_in}
use Rattle.bench_complete.specs.Complete.{Plan, Completes, plan_for, extent_of, low_of}
use Rattle.bench_complete.specs.Lanes.{IsSmall}

-- a packet of this type is among them
abbrev pub has_kind : ℕ → List Found → Bool
has_kind kind ps = list_any (λ (p : Found). p.header.kind == kind) ps

-- a packet of this channel is among them
abbrev pub has_channel : ℕ → List Found → Bool
has_channel channel ps = list_any (λ (p : Found). p.header.channel == channel) ps

-- the packet with this header that begins these bytes tells the time of day: it is of type 11, and its body that of a
-- time packet
abbrev pub tells_time_by : Header → List ℕ → Bool
tells_time_by h bytes = (h.kind == time_data) && is_time_body (body_of h bytes)

-- the packet with this header at an offset of a file does
abbrev pub tells_time : List ℕ → ℕ → Header → Bool
tells_time file offset h = tells_time_by h (drop offset file)

-- a time packet is among them
abbrev pub has_time : List ℕ → List Found → Bool
has_time file ps = list_any (λ (p : Found). tells_time file p.offset p.header) ps

-- the text of a setup record has 1 to 524,000 bytes
abbrev pub is_setup : Option (List ℕ) → Bool
is_setup None = true
is_setup (Some text) = nat_lt 0 (length text) && nat_lt (length text) 524001

-- more than 1,000,000 whole seconds
abbrev pub is_too_long : Option Extent → Bool
is_too_long None = false
is_too_long (Some e) = nat_lt 1000000 (e.high / 10000000 - e.low / 10000000 + 1)

-- time packets are asked for beside those of a recording, and not as second ones
abbrev pub is_timed_twice : Additions → Bool → Bool
is_timed_twice a timed = is_some a.start && (not a.second_time && timed)

-- the first usage fault that hangs on the recording: a second setup record, second time packets, time packets on a
-- channel that is taken, or too many
abbrev pub misuse_of : Bool → Bool → Bool → Bool → Option CompleteFault
misuse_of setup_twice time_twice taken long =
    if setup_twice then Some faults.SetupTwice
    else (if time_twice then Some faults.TimeTwice
    else (if taken then Some faults.ChannelTaken else (if long then Some faults.TooLong else None)))

abbrev pub misuse : List ℕ → List Found → Additions → Option CompleteFault
misuse file ps a = misuse_of (is_some a.setup && has_kind setup_record ps)
    (is_timed_twice a (has_time file ps))
    (is_some a.start && has_channel a.time_channel ps)
    (is_some a.start && is_too_long (extent_of (kept_packets file ps)))

-- the same by where the packets stand, whether a time packet is among them, and their extent
abbrev pub misuse_by : List Placed → Bool → Additions → Option Extent → Option CompleteFault
misuse_by es timed a x =
    misuse_of (is_some a.setup && list_any (λ (e : Placed). e.header.kind == setup_record) es)
    (is_timed_twice a timed)
    (is_some a.start && list_any (λ (e : Placed). e.header.channel == a.time_channel) es)
    (is_some a.start && is_too_long x)

abbrev pub unless_misused : Option CompleteFault → List Found → Result (List Found) CompleteFault
unless_misused None ps = Ok ps
unless_misused (Some f) ps = Err f

abbrev pub judged_recording : List ℕ → Result (List Found) Refusal → Additions → Result (List Found) CompleteFault
judged_recording file (Err r) a = Err (faults.Refused r)
judged_recording file (Ok ps) a = unless_misused (misuse file ps a) ps

-- the packets that are completed, or the first fault: the size of the setup text, then the recording's own, then usage
-- faults that hang on the recording
abbrev pub judged_additions : List ℕ → Result (List Found) Refusal → Additions → Result (List Found) CompleteFault
judged_additions file read a =
    if is_setup (option_map (λ text. text.now) a.setup) then judged_recording file read a else Err faults.SetupSize

-- what each refusal of judging says: it is the first fault; want of memory, and a reader that fails, may come with any
-- recording, but only where the size of the setup text is right
abbrev pub RefusesCompletion : List ℕ → Result (List Found) Refusal → Additions → CompleteFault → Type 0
RefusesCompletion file read a faults.Memory = is_setup (option_map (λ text. text.now) a.setup) ≡ true
RefusesCompletion file read a faults.Reader = is_setup (option_map (λ text. text.now) a.setup) ≡ true
RefusesCompletion file read a faults.SetupSize = judged_additions file read a ≡ Err faults.SetupSize
RefusesCompletion file read a (faults.Refused r) = judged_additions file read a ≡ Err (faults.Refused r)
RefusesCompletion file read a faults.SetupTwice = judged_additions file read a ≡ Err faults.SetupTwice
RefusesCompletion file read a faults.TimeTwice = judged_additions file read a ≡ Err faults.TimeTwice
RefusesCompletion file read a faults.ChannelTaken = judged_additions file read a ≡ Err faults.ChannelTaken
RefusesCompletion file read a faults.TooLong = judged_additions file read a ≡ Err faults.TooLong
RefusesCompletion file read a faults.Device = ⊥

-- what judging comes to: a plan, or a refusal
abbrev pub Plans : List ℕ → Result (List Found) Refusal → Additions → Result (Option Plan) CompleteFault → Type 0
Plans file read a (Ok c) = (ps : List Found) × (judged_additions file read a ≡ Ok ps) × (c ≡ Some (plan_for file ps a))
Plans file read a (Err f) = RefusesCompletion file read a f

-- what stops the writing of a file: want of memory, the reader or the writer
abbrev pub StopsWriting : CompleteFault → Type 0
StopsWriting f = (f ≡ faults.Memory) ⊎ ((f ≡ faults.Reader) ⊎ (f ≡ faults.Device))

-- what completing a recording fails with: a refusal of judging; or where nothing is refused, what stops the writing
abbrev pub Fails : List ℕ → Result (List Found) Refusal → Additions → CompleteFault → Type 0
Fails file read a f = RefusesCompletion file read a f
    ⊎ ((judged_additions file read a ≡ Ok (found_or_none read)) × StopsWriting f)

-- a packet of a file: it reads as this at its offset
pub record ReadsAt (file : List ℕ) (p : Found) : Type 0 where
  pub packet : packet_at (drop p.offset file) ≡ Ok p.header
  pub messages : p.messages ≡ packet_messages p.header (drop p.offset file)
  pub within : p.offset + p.header.packet_length ≤ length file
  pub counter : p.header.counter < 2 ^ 48

abbrev pub AllReadAt : List ℕ → List Found → Type 0
AllReadAt file ps = AllByRecursion (ReadsAt file) ps

-- what a plan rests on, whatever the bytes of the packets are
pub record IsPlanned (es : List Placed) (t : Times) (low : ℕ) (setup : Option (List ℕ)) : Type 0 where
  pub small : IsSmall t
  pub lowest : (file : List ℕ) → low ≡ low_of (extent_of (times_in t ++ kept_entries file es))
  pub few : low < 2 ^ 48
  pub free : (file : List ℕ) → t.first < t.end → of_channel t.channel (kept_entries file es) ≡ []
  pub text : is_setup setup ≡ true

-- a recording that could be read was completed: a writer got the file of its plan
abbrev pub IsCompleted : List ℕ → Result (List Found) Refusal → Additions → Option (List ℕ) → Option (List ℕ) → Type 0
IsCompleted file read a got gets = (ps : List Found) × (judged_additions file read a ≡ Ok ps)
    × Completes (plan_for file ps a) got gets

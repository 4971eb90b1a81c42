-- What a plan rests on.
use Rattle.std.proofs.Common.{◌≡◌, ◌⊎◌, inl, inr, ℕ, ◌+◌, ◌-◌, ◌*◌, ◌/◌, ◌<◌, ◌≤◌, ◌^◌, Bool, true, false, cond, eqb, ltb, ◌&&◌, is_some, List, [], ◌∷◌, ◌++◌, Option, None, Some, option_map, refl, sym, ap, subst, ◌∙◌, arith}
use Rattle.std.specs.List.{AllByRecursion, list_any}
use Rattle.std.proofs.lemmas.Bool.{cases_lt, lt-ltb, le-ltb, or_parts}
use Rattle.ch11_header.specs.declared.header.Header.{Header}
use Rattle.ch11_reader.specs.Recording.{Found}
use Rattle.bench_complete.specs.declared.additions.Additions.{Additions}
use Rattle.bench_complete.specs.declared.additions.UtcSecond.{UtcSecond}
use Rattle.bench_complete.specs.declared.extent.Extent.{Extent}
use Rattle.bench_complete.specs.declared.fault.CompleteFault.{CompleteFault}
use Rattle.bench_complete.specs.declared.listing.Listed.{Listed}
use Rattle.bench_complete.specs.declared.placed.Placed.{Placed}
use Rattle.bench_complete.specs.declared.times.Times.{Times}
use Rattle.bench_complete.specs.Pieces.{Piece, goes_over, kept_entries, kept_packets, piece_at}
use Rattle.bench_complete.specs.Merging.{of_channel}
use Rattle.bench_complete.specs.TimePackets.{times_from, times_in}
use Rattle.bench_complete.specs.Complete.{Plan, plan_by, plan_of, plan_for, extent_of, low_of, low_by, times_between}
use Rattle.bench_complete.specs.Judging.{AllReadAt, IsPlanned, has_kind, is_setup, misuse, misuse_of, misuse_by, is_timed_twice, is_too_long, has_time}
use Rattle.bench_complete.specs.Lanes.{IsSmall}
use Rattle.bench_complete.specs.Listing.{AreSmall, IsListed, places_of}
use Rattle.bench_complete.proofs.Extents.{low_with_times, high_below}
use Rattle.bench_complete.proofs.Sound.{any_is, kept_is}

-- the lowest counter
low_timed : (t : Times) (e : Extent) (ks : List Piece) → t.first ≡ e.low / 10000000 → extent_of ks ≡ Some e → (t.first < t.end) ⊎ (t.end ≤ t.first)
    → cond (ltb t.first t.end) (t.first * 10000000) e.low ≡ low_of (extent_of (times_in t ++ ks))
low_timed t e ks first is (inl some) =
    ap (λ (b : Bool). cond b (t.first * 10000000) e.low) (lt-ltb t.first t.end some) ∙ sym (low_with_times t ks e some (omega (arith, first)) is)
low_timed t e ks first is (inr none) =
    let count : t.end - t.first ≡ 0 = omega (arith, none) in
    ap (λ (b : Bool). cond b (t.first * 10000000) e.low) (le-ltb t.first t.end none) ∙ sym (ap (λ (k : ℕ). low_of (extent_of (times_from t k t.first ++ ks))) count ∙ ap low_of is)

pub low_is : (a : Additions) (start : Option UtcSecond) (x : Option Extent) (ks : List Piece) → x ≡ extent_of ks
    → low_by (times_between a start x) x ≡ low_of (extent_of (times_in (times_between a start x) ++ ks))
low_is a None None ks is = ap low_of is
low_is a (Some s) None ks is = ap low_of is
low_is a None (Some e) ks is = ap low_of is
low_is a (Some s) (Some e) ks is =
    let t : Times = times_between a (Some s) (Some e) in
    low_timed t e ks refl (sym is) (cases_lt t.first t.end)

pub version_is : (a : Additions) (start : Option UtcSecond) (x : Option Extent) → (times_between a start x).version ≡ a.version
version_is a None None = refl
version_is a (Some s) None = refl
version_is a None (Some e) = refl
version_is a (Some s) (Some e) = refl

-- ---- counters of 48 bits

abbrev pub AreBelow : List Piece → Type 0
AreBelow ks = AllByRecursion (λ (k : Piece). k.header.counter < 2 ^ 48) ks

below_by : (k : Piece) (ks : List Piece) (over : Bool) → k.header.counter < 2 ^ 48 → AreBelow ks → AreBelow (cond over (k ∷ ks) ks)
below_by k ks true small others = (small, others)
below_by k ks false small others = others

pub found_below : (file : List ℕ) (ps : List Found) → AllReadAt file ps → AreBelow (kept_packets file ps)
found_below file [] all = tt
found_below file (p ∷ ps) all = below_by (piece_at file p.offset p.header) (kept_packets file ps) (goes_over p.header) all.0.counter (found_below file ps all.1)

pub placed_below : (file : List ℕ) (es : List Placed) → AreSmall es → AreBelow (kept_entries file es)
placed_below file [] all = tt
placed_below file (e ∷ es) all = below_by (piece_at file e.offset e.header) (kept_entries file es) (goes_over e.header) all.0 (placed_below file es all.1)

extent_small : (ks : List Piece) (e : Extent) → AreBelow ks → extent_of ks ≡ Some e → (e.low < 2 ^ 48) × (e.high < 2 ^ 48)
extent_small ks e all is = high_below (2 ^ 48) None ks e (λ y was. absurd (cc)) all is

small_by : (a : Additions) (start : Option UtcSecond) (x : Option Extent) → ((e : Extent) → x ≡ Some e → (e.low < 2 ^ 48) × (e.high < 2 ^ 48)) → IsSmall (times_between a start x)
small_by a None None bound = record { end = omega arith; start = omega arith }
small_by a (Some s) None bound = record { end = omega arith; start = omega arith }
small_by a None (Some e) bound = record { end = omega arith; start = omega arith }
small_by a (Some s) (Some e) bound = let b = bound e refl in record { end = omega (arith, b.1); start = s.in_range }

pub small : (ks : List Piece) (a : Additions) (x : Option Extent) → AreBelow ks → x ≡ extent_of ks → IsSmall (times_between a a.start x)
small ks a x all is = small_by a a.start x (λ e was. extent_small ks e all (sym is ∙ was))

low_small_by : (a : Additions) (start : Option UtcSecond) (x : Option Extent) → ((e : Extent) → x ≡ Some e → (e.low < 2 ^ 48) × (e.high < 2 ^ 48)) → low_by (times_between a start x) x < 2 ^ 48
low_small_by a None None bound = omega arith
low_small_by a (Some s) None bound = omega arith
low_small_by a None (Some e) bound = (bound e refl).0
low_small_by a (Some s) (Some e) bound =
    let b = bound e refl in
    elim (cases_lt (e.low / 10000000) (e.high / 10000000 + 1)) [
      | inl some ↦ subst (λ (v : Bool). cond v (e.low / 10000000 * 10000000) e.low < 2 ^ 48) (sym (lt-ltb (e.low / 10000000) (e.high / 10000000 + 1) some)) (omega (arith, b.0))
      | inr none ↦ subst (λ (v : Bool). cond v (e.low / 10000000 * 10000000) e.low < 2 ^ 48) (sym (le-ltb (e.low / 10000000) (e.high / 10000000 + 1) none)) b.0
    ]

pub low_small : (ks : List Piece) (a : Additions) (x : Option Extent) → AreBelow ks → x ≡ extent_of ks → low_by (times_between a a.start x) x < 2 ^ 48
low_small ks a x all is = low_small_by a a.start x (λ e was. extent_small ks e all (sym is ∙ was))

first_small_by : (a : Additions) (start : Option UtcSecond) (x : Option Extent) → ((e : Extent) → x ≡ Some e → (e.low < 2 ^ 48) × (e.high < 2 ^ 48)) → (times_between a start x).first ≤ 28147498
first_small_by a None None bound = omega arith
first_small_by a (Some s) None bound = omega arith
first_small_by a None (Some e) bound = omega arith
first_small_by a (Some s) (Some e) bound = let b = bound e refl in omega (arith, b.0)

pub first_small : (ks : List Piece) (a : Additions) (x : Option Extent) → AreBelow ks → x ≡ extent_of ks → (times_between a a.start x).first ≤ 28147498
first_small ks a x all is = first_small_by a a.start x (λ e was. extent_small ks e all (sym is ∙ was))

-- no packet of a channel that none has
none_by : (channel : ℕ) (k : Piece) (ks : List Piece) (over : Bool) → eqb k.header.channel channel ≡ false → of_channel channel ks ≡ [] → of_channel channel (cond over (k ∷ ks) ks) ≡ []
none_by channel k ks true other none = rw other none
none_by channel k ks false other none = none

abbrev pub takes_channel : ℕ → List Placed → Bool
takes_channel channel es = list_any (λ (e : Placed). eqb e.header.channel channel) es

no_channel : (file : List ℕ) (channel : ℕ) (es : List Placed) → takes_channel channel es ≡ false → of_channel channel (kept_entries file es) ≡ []
no_channel file channel [] none = refl
no_channel file channel (e ∷ es) none =
    let parts = or_parts (eqb e.header.channel channel) (takes_channel channel es) none in
    none_by channel (piece_at file e.offset e.header) (kept_entries file es) (goes_over e.header) parts.0 (no_channel file channel es parts.1)

-- where nothing is misused, the channel of the time packets is free
passed_by : (setup time taken long : Bool) → misuse_of setup time taken long ≡ None → taken ≡ false
passed_by true time taken long is = cc
passed_by false true taken long is = cc
passed_by false false true long is = cc
passed_by false false false long is = refl

free_by : (a : Additions) (start : Option UtcSecond) (x : Option Extent) (taken : Bool) → (is_some start && taken) ≡ false → (times_between a start x).first < (times_between a start x).end
    → (taken ≡ false) × ((times_between a start x).channel ≡ a.time_channel)
free_by a None None taken free some = absurd (omega (arith, some))
free_by a None (Some e) taken free some = absurd (omega (arith, some))
free_by a (Some s) None taken free some = absurd (omega (arith, some))
free_by a (Some s) (Some e) taken free some = (free, refl)

abbrev has_setup : List Placed → Bool
has_setup es = list_any (λ (e : Placed). eqb e.header.kind 1) es

free_channel : (l : Listed) (a : Additions) (x : Option Extent) → misuse_by l.packets.items l.timed a x ≡ None → (file : List ℕ) → (times_between a a.start x).first < (times_between a a.start x).end
    → of_channel (times_between a a.start x).channel (kept_entries file l.packets.items) ≡ []
free_channel l a x none file some =
    let es : List Placed = l.packets.items in
    let free = passed_by (is_some a.setup && has_setup es) (is_timed_twice a l.timed) (is_some a.start && takes_channel a.time_channel es) (is_some a.start && is_too_long x) none in
    let f = free_by a a.start x (takes_channel a.time_channel es) free some in
    ap (λ (k : ℕ). of_channel k (kept_entries file es)) f.1 ∙ no_channel file a.time_channel es f.0

-- ---- what is kept of the packets of a file

abbrev found_plan : List ℕ → List Found → Additions → ℕ → Times → Plan
found_plan file ps a version t = plan_of (option_map (λ text. text.now) a.setup) version (times_in t) (kept_packets file ps)

extent_is : (file : List ℕ) (ps : List Found) (l : Listed) (x : Option Extent) → IsListed file ps l → ((file : List ℕ) → x ≡ extent_of (kept_entries file l.packets.items)) → x ≡ extent_of (kept_packets file ps)
extent_is file ps l x listed is = is file ∙ ap (λ (es : List Placed). extent_of (kept_entries file es)) listed.places ∙ ap extent_of (kept_is file ps)

pub plan_is : (file : List ℕ) (ps : List Found) (l : Listed) (a : Additions) (x : Option Extent) (t : Times) → IsListed file ps l → ((file : List ℕ) → x ≡ extent_of (kept_entries file l.packets.items))
    → t ≡ times_between a a.start x → plan_by (option_map (λ text. text.now) a.setup) t l.packets.items file ≡ plan_for file ps a
plan_is file ps l a x t listed is times =
    ap (λ (es : List Placed). plan_by (option_map (λ text. text.now) a.setup) t es file) listed.places
    ∙ ap (λ (ks : List Piece). plan_of (option_map (λ text. text.now) a.setup) t.version (times_in t) ks) (kept_is file ps)
    ∙ ap (λ (y : Times). found_plan file ps a y.version y) times
    ∙ ap (λ (v : ℕ). found_plan file ps a v (times_between a a.start x)) (version_is a a.start x)
    ∙ ap (λ (y : Option Extent). found_plan file ps a a.version (times_between a a.start y)) (extent_is file ps l x listed is)

abbrev faults_by : Additions → Bool → Bool → Bool → Option Extent → Option CompleteFault
faults_by a setup timed taken x = misuse_of (is_some a.setup && setup) (is_timed_twice a timed) (is_some a.start && taken) (is_some a.start && is_too_long x)

pub misuse_same : (file : List ℕ) (ps : List Found) (l : Listed) (a : Additions) (x : Option Extent) → IsListed file ps l → ((file : List ℕ) → x ≡ extent_of (kept_entries file l.packets.items))
    → misuse_by l.packets.items l.timed a x ≡ misuse file ps a
misuse_same file ps l a x listed is =
    ap (λ (es : List Placed). faults_by a (has_setup es) l.timed (takes_channel a.time_channel es) x) listed.places
    ∙ ap (λ (b : Bool). faults_by a (has_setup (places_of ps)) b (takes_channel a.time_channel (places_of ps)) x) listed.timed
    ∙ ap (faults_by a (has_setup (places_of ps)) (has_time file ps) (takes_channel a.time_channel (places_of ps))) (extent_is file ps l x listed is)
    ∙ ap (λ (b : Bool). faults_by a b (has_time file ps) (takes_channel a.time_channel (places_of ps)) (extent_of (kept_packets file ps))) (any_is (λ (h : Header). eqb h.kind 1) ps)
    ∙ ap (λ (b : Bool). faults_by a (has_kind 1 ps) (has_time file ps) b (extent_of (kept_packets file ps))) (any_is (λ (h : Header). eqb h.channel a.time_channel) ps)

pub planned : (l : Listed) (a : Additions) (x : Option Extent) (t : Times) (low : ℕ) → AreSmall l.packets.items → ((file : List ℕ) → x ≡ extent_of (kept_entries file l.packets.items)) → misuse_by l.packets.items l.timed a x ≡ None
    → t ≡ times_between a a.start x → low ≡ low_by t x → is_setup (option_map (λ text. text.now) a.setup) ≡ true → IsPlanned l.packets.items t low (option_map (λ text. text.now) a.setup)
planned l a x t low all is none times lowest text =
    let es : List Placed = l.packets.items in
    let least : low ≡ low_by (times_between a a.start x) x = lowest ∙ ap (λ (y : Times). low_by y x) times in
    record {
      small = subst IsSmall (sym times) (small (kept_entries [] es) a x (placed_below [] es all) (is []));
      lowest = λ file. least ∙ low_is a a.start x (kept_entries file es) (is file) ∙ ap (λ (y : Times). low_of (extent_of (times_in y ++ kept_entries file es))) (sym times);
      few = subst (λ (k : ℕ). k < 2 ^ 48) (sym least) (low_small (kept_entries [] es) a x (placed_below [] es all) (is []));
      free = λ file. subst (λ (y : Times). y.first < y.end → of_channel y.channel (kept_entries file es) ≡ []) (sym times) (free_channel l a x none file);
      text = text;
    }

-- The counters of a recording's marks rise.
use Rattle.std.proofs.Common.{◌≡◌, ℕ, zero, suc, ◌+◌, ◌*◌, ◌/◌, ◌%◌, ◌<◌, ◌≤◌, Bool, true, false, ◌&&◌, cond, eqb, ltb, List, [], ◌∷◌, ◌++◌, length, get_or, refl, sym, ap, subst, ◌∙◌, arith}
use Rattle.std.specs.Prelude.{slice_get, Option, None, Some, option_map}
use Rattle.std.specs.Str.{bytes_eq}
use Rattle.std.proofs.lemmas.Bool.{ltb-true}
use Rattle.ch11_header.specs.declared.header.Header.{Header}
use Rattle.ch11_reader.specs.declared.packet.Packet.{Packet}
use Rattle.bench_clock.specs.declared.clock.Mark.{Mark}
use Rattle.ch11_reader.specs.Recording as recording
use Rattle.bench_clock.specs.declared.told.PacketTime.{PacketTime}
use Rattle.bench_clock.specs.declared.told.PacketTime.TheVariants.{Utc, OfYear}
use Rattle.bench_clock.specs.TimeBody.{body_of, year_body, year_seconds, second_below, second_of, year_second_of, settled, hundredths_in, ticks_of, utc_in, is_leap, year_time_in, packet_time}
use Rattle.bench_clock.specs.Clock.{body_in, is_time, told_by, told_in, is_above, mark_of, last_behind, marks_behind, marks_of}
use Rattle.bench_clock.specs.Rising.{IsRising, IsWithin}

picked : (n t : ℕ) (rest : Option ℕ) (same : Bool) → (rest ≡ Some t → t < n) → cond same (Some n) rest ≡ Some t → t < suc n
picked n t rest true low is = let same : n ≡ t = cc in omega (arith, same)
picked n t rest false low is = let lt = low is in omega (arith, lt)

-- a second that is found is below the limit
found_below : (f : ℕ → List ℕ) (n t : ℕ) (body : List ℕ) → second_below f n body ≡ Some t → t < n
unfolding second_below
found_below f zero t body is = absurd (cc)
found_below f (suc n) t body is = picked n t (second_below f n body) (bytes_eq body (f n)) (found_below f n t body) is

-- ---- what a body tells is within its years

hundredths_if : (digits x : ℕ) (high low : Bool) → ltb (digits / 16) 10 ≡ high → ltb (digits % 16) 10 ≡ low → cond (high && low) (Some (digits / 16 * 10 + digits % 16)) None ≡ Some x → x < 100
hundredths_if digits x true true h l is =
    let same : digits / 16 * 10 + digits % 16 ≡ x = cc in
    omega (arith, same, ltb-true _ _ h, ltb-true _ _ l)
hundredths_if digits x true false h l is = absurd (cc)
hundredths_if digits x false low h l is = absurd (cc)

ticks_small : (digits : ℕ) (second : Option ℕ) (limit t : ℕ) → ((x : ℕ) → second ≡ Some x → x < limit) → (found : Option ℕ) → hundredths_in digits ≡ found → ticks_of found second ≡ Some t → t < limit * 10000000
ticks_small digits second limit t small None h is = absurd (cc)
ticks_small digits None limit t small (Some x) h is = absurd (cc)
ticks_small digits (Some s) limit t small (Some x) h is =
    let same : s * 10000000 + x * 100000 ≡ t = cc in
    omega (arith, same, small s refl, hundredths_if digits x _ _ refl refl h)

utc_small : (body : List ℕ) (t : ℕ) → utc_in body ≡ Some t → t < 2534023008000000000
utc_small body t is = omega (arith, ticks_small (get_or body 4 0) (second_of (settled body)) 253402300800 t (λ x. found_below body_of 253402300800 x (settled body)) _ refl is)

year_small : (body : List ℕ) (t : ℕ) → year_time_in body ≡ Some t → t < year_seconds (is_leap body) * 10000000
year_small body t is =
    let leap = is_leap body in
    ticks_small (get_or body 4 0) (year_second_of leap (settled body)) (year_seconds leap) t (λ x. found_below (year_body leap) (year_seconds leap) x (settled body)) _ refl is

utc_within : (o : Option ℕ) (t : PacketTime) → ((x : ℕ) → o ≡ Some x → x < 2534023008000000000) → option_map (λ ticks. Utc ticks) o ≡ Some t → IsWithin t
utc_within None t small is = absurd (cc)
utc_within (Some x) t small is =
    let same : Utc x ≡ t = cc in
    subst (λ (p : PacketTime). IsWithin p) same (small x refl)

year_within : (leap : Bool) (o : Option ℕ) (t : PacketTime) → ((x : ℕ) → o ≡ Some x → x < year_seconds leap * 10000000) → option_map (λ ticks. OfYear leap ticks) o ≡ Some t → IsWithin t
year_within leap None t small is = absurd (cc)
year_within leap (Some x) t small is =
    let same : OfYear leap x ≡ t = cc in
    subst (λ (p : PacketTime). IsWithin p) same (small x refl)

body_within : (body : List ℕ) (t : PacketTime) (dated yearly : Bool)
    → cond dated (option_map (λ ticks. Utc ticks) (utc_in body)) (cond yearly (option_map (λ ticks. OfYear (is_leap body) ticks) (year_time_in body)) None) ≡ Some t → IsWithin t
body_within body t true yearly is = utc_within (utc_in body) t (utc_small body) is
body_within body t false true is = year_within (is_leap body) (year_time_in body) t (year_small body) is
body_within body t false false is = absurd (cc)

pub packet_within : (body : List ℕ) (t : PacketTime) → packet_time body ≡ Some t → IsWithin t
packet_within body t is = body_within body t (eqb (length body) 12) (eqb (length body) 10) is

told_if : (body : List ℕ) (t : PacketTime) (kind : Bool) → cond kind (packet_time body) None ≡ Some t → IsWithin t
told_if body t true is = packet_within body t is
told_if body t false is = absurd (cc)

told_within : (named : Option ℕ) (file : List ℕ) (e : Packet) (t : PacketTime) → told_by named file e ≡ Some t → IsWithin t
told_within named file e t is = told_if (body_in file e) t (is_time named e.header) is

-- what a time packet tells
pub told_time : (named : Option ℕ) (h : Header) (bytes : List ℕ) (t : Option PacketTime) → is_time named h ≡ true → t ≡ packet_time (recording.body_of h bytes) → t ≡ told_in named h bytes
told_time named h bytes t kind is = is ∙ ap (λ (b : Bool). cond b (packet_time (recording.body_of h bytes)) None) (sym kind)

pub told_in_within : (named : Option ℕ) (h : Header) (bytes : List ℕ) (t : PacketTime) → told_in named h bytes ≡ Some t → IsWithin t
told_in_within named h bytes t is = told_if (recording.body_of h bytes) t (is_time named h) is

-- marks rise behind a last counter, and their times are within their years
abbrev pub Rises : Option ℕ → List Mark → Type 0
Rises last [] = Unit {0}
Rises last (m ∷ ms) = (is_above last m.counter ≡ true) × IsWithin m.time × Rises (Some m.counter) ms

mark_rises_if : (last : Option ℕ) (counter : ℕ) (t : PacketTime) (rest : List Mark) (above : Bool) → IsWithin t → is_above last counter ≡ above → Rises (cond above (Some counter) last) rest
    → Rises last (cond above (record { counter = counter; time = t } ∷ []) [] ++ rest)
mark_rises_if last counter t rest true small is r = (is, small, r)
mark_rises_if last counter t rest false small is r = r

-- marks rise that rise behind the mark of a packet
pub mark_rises : (last : Option ℕ) (counter : ℕ) (told : Option PacketTime) (rest : List Mark) → ((t : PacketTime) → told ≡ Some t → IsWithin t)
    → Rises (last_behind last counter told) rest → Rises last (mark_of last counter told ++ rest)
mark_rises last counter None rest small r = r
mark_rises last counter (Some t) rest small r = mark_rises_if last counter t rest (is_above last counter) (small t refl) refl r

pub rises : (named : Option ℕ) (file : List ℕ) (last : Option ℕ) (es : List Packet) → Rises last (marks_behind named file last es)
rises named file last [] = tt
rises named file last (e ∷ es) =
    let l = last_behind last e.header.counter (told_by named file e) in
    mark_rises last e.header.counter (told_by named file e) (marks_behind named file l es) (told_within named file e) (rises named file l es)

above_last : (last : ℕ) (ms : List Mark) → Rises (Some last) ms → (j : ℕ) (b : Mark) → slice_get ms j ≡ Some b → last ≤ b.counter
above_last last [] r j b is = absurd (cc)
above_last last (m ∷ ms) r zero b is =
    let same : m ≡ b = cc in
    omega (arith, ltb-true last m.counter r.0, ap (λ (x : Mark). x.counter) same)
above_last last (m ∷ ms) r (suc j) b is = omega (arith, ltb-true last m.counter r.0, above_last m.counter ms r.2 j b is)

in_order : (last : Option ℕ) (ms : List Mark) → Rises last ms → (i j : ℕ) (a b : Mark) → i ≤ j → slice_get ms i ≡ Some a → slice_get ms j ≡ Some b → a.counter ≤ b.counter
in_order last [] r i j a b le x y = absurd (cc)
in_order last (m ∷ ms) r zero zero a b le x y =
    let same : a ≡ b = cc in
    omega (arith, ap (λ (z : Mark). z.counter) same)
in_order last (m ∷ ms) r zero (suc j) a b le x y =
    let same : m ≡ a = cc in
    omega (arith, ap (λ (z : Mark). z.counter) same, above_last m.counter ms r.2 j b y)
in_order last (m ∷ ms) r (suc i) zero a b le x y = absurd (omega (arith, le))
in_order last (m ∷ ms) r (suc i) (suc j) a b le x y = in_order (Some m.counter) ms r.2 i j a b (omega (arith, le)) x y

in_years : (last : Option ℕ) (ms : List Mark) → Rises last ms → (i : ℕ) (a : Mark) → slice_get ms i ≡ Some a → IsWithin a.time
in_years last [] r i a x = absurd (cc)
in_years last (m ∷ ms) r zero a x =
    let same : m ≡ a = cc in
    subst (λ (z : Mark). IsWithin z.time) same r.1
in_years last (m ∷ ms) r (suc i) a x = in_years (Some m.counter) ms r.2 i a x

-- what a clock keeps of marks that rise
pub all_rise : (ms : List Mark) → Rises None ms → IsRising ms
all_rise ms r = record { order = in_order None ms r; times = in_years None ms r }

-- what a clock keeps of the marks of a recording
pub rising : (named : Option ℕ) (file : List ℕ) (es : List Packet) → IsRising (marks_of named file es)
rising named file es = all_rise (marks_of named file es) (rises named file None es)

-- The time of day at a stamp (own choice): that of the last time packet at or before it, and what has passed since.
use Rattle.std.specs.Prelude.{ℕ, ◌+◌, ◌-◌, ◌*◌, ◌%◌, ◌==◌, ◌&&◌, ◌||◌, Bool, true, false, nat_lt, if◌then◌else◌}
use Rattle.std.specs.Prelude.{List, [], ◌∷◌, ◌++◌, take, drop, Option, None, Some, option_map}
use Rattle.ch11_header.specs.declared.header.Header.{Header}
use Rattle.ch11_header.specs.HeaderReading.{body_start}
use Rattle.ch11_header.specs.Kinds.{time_data}
use Rattle.ch11_layout.specs.declared.stamps.StampKind.{StampKind}
use Rattle.ch11_layout.specs.declared.stamps.StampKind.TheVariants.{Counter, TimeOfDay, Unknown}
use Rattle.ch11_reader.specs.declared.packet.Packet.{Packet}
use Rattle.ch11_reader.specs.Recording.{body_of}
use Rattle.bench_clock.specs.declared.clock.Mark.{Mark}
use Rattle.bench_clock.specs.declared.told.PacketTime.{PacketTime}
use Rattle.bench_clock.specs.declared.told.PacketTime.TheVariants.{Utc, OfYear}
use Rattle.bench_clock.specs.TimeBody.{packet_time, year_seconds}
use Rattle.bench_clock.specs.Time.{Time, in_utc, in_year}

-- the body of a packet of a file
abbrev pub body_in : List ℕ → Packet → List ℕ
body_in file e = take e.header.data_length (drop (e.offset + body_start e.header) file)

-- a packet is of the channel whose time packets count; where none is named all count
abbrev pub is_of : Option ℕ → Header → Bool
is_of None h = true
is_of (Some channel) h = h.channel == channel

-- a time packet (type 11) of it
abbrev pub is_time : Option ℕ → Header → Bool
is_time named h = h.kind == time_data && is_of named h

-- the time that a packet tells, which begins these bytes: it is a time packet, and its body that of a time
abbrev pub told_in : Option ℕ → Header → List ℕ → Option PacketTime
told_in named h bytes = if is_time named h then packet_time (body_of h bytes) else None

-- the time that a packet of a file tells
abbrev pub told_by : Option ℕ → List ℕ → Packet → Option PacketTime
told_by named file e = if is_time named e.header then packet_time (body_in file e) else None

-- a counter is above the last one
abbrev pub is_above : Option ℕ → ℕ → Bool
is_above None counter = true
is_above (Some last) counter = nat_lt last counter

-- the mark that a packet makes behind a last counter, and the last counter behind it
abbrev pub mark_of : Option ℕ → ℕ → Option PacketTime → List Mark
mark_of last counter None = []
mark_of last counter (Some time) = if is_above last counter then record { counter = counter; time = time } ∷ []
    else []

abbrev pub last_behind : Option ℕ → ℕ → Option PacketTime → Option ℕ
last_behind last counter None = last
last_behind last counter (Some time) = if is_above last counter then Some counter else last

-- the time packets that count, of either form, in the order of the file: each whose counter is above those of all that
-- count before it
abbrev pub marks_behind : Option ℕ → List ℕ → Option ℕ → List Packet → List Mark
marks_behind named file last [] = []
marks_behind named file last (e ∷ es) = mark_of last e.header.counter (told_by named file e)
    ++ marks_behind named file (last_behind last e.header.counter (told_by named file e)) es

-- those of one channel, where one is named
abbrev pub marks_of : Option ℕ → List ℕ → List Packet → List Mark
marks_of named file es = marks_behind named file None es

-- those of all channels
abbrev pub marks_in : List ℕ → List Packet → List Mark
marks_in file es = marks_of None file es

-- there is none of them, so that no stamp has a time of day
abbrev pub is_unset : List Mark → Bool
is_unset [] = true
is_unset (m ∷ ms) = false

-- there are such packets
abbrev pub has_time_packets : Option ℕ → List Packet → Bool
has_time_packets named [] = false
has_time_packets named (e ∷ es) = is_time named e.header || has_time_packets named es

-- there are such packets, and none tells a time
abbrev pub is_unread_of : Option ℕ → List ℕ → List Packet → Bool
is_unread_of named file es = has_time_packets named es && is_unset (marks_of named file es)

abbrev pub is_unread : List ℕ → List Packet → Bool
is_unread file es = is_unread_of None file es

abbrev pub or_else : Option Mark → Option Mark → Option Mark
or_else None other = other
or_else (Some m) other = Some m

-- the last mark at or before a stamp
abbrev pub ruling : ℕ → List Mark → Option Mark
ruling stamp [] = None
ruling stamp (m ∷ ms) = or_else (ruling stamp ms) (if nat_lt stamp m.counter then None else Some m)

-- the time so many ticks of 0.1 µs behind 1970-01-01T00:00:00; none behind the year 9999
abbrev pub within_years : ℕ → Option ℕ
within_years ticks = if nat_lt ticks 2534023008000000000 then Some ticks else None

-- the time so many ticks behind that of a time packet: behind the end of a year that is not named begins the next one,
-- which is taken to be as long
abbrev pub time_behind : PacketTime → ℕ → Option Time
time_behind (Utc ticks) passed = option_map (λ t. in_utc t) (within_years (ticks + passed))
time_behind (OfYear leap ticks) passed = Some (in_year ((ticks + passed) % (year_seconds leap * 10000000)))

-- the time of a mark, and what has passed since
abbrev pub time_by : Option Mark → ℕ → Option Time
time_by None stamp = None
time_by (Some m) stamp = time_behind m.time (stamp - m.counter)

-- the time of day at a stamp; none in front of the first mark
abbrev pub time_at : List Mark → ℕ → Option Time
time_at ms stamp = time_by (ruling stamp ms) stamp

-- the time of day of a stamp in ticks: one that is a time of day is it itself
abbrev pub time_of_stamp : List Mark → StampKind → ℕ → Option Time
time_of_stamp ms Counter ticks = time_at ms ticks
time_of_stamp ms TimeOfDay ticks = option_map (λ t. in_utc t) (within_years ticks)
time_of_stamp ms Unknown ticks = None

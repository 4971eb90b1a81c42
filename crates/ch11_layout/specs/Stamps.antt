-- When a recorded message began, by its time stamp and the flags of its packet (IRIG 106-17 Chapter 11, packet header:
-- packet flags; intra-packet time stamp). The eight bytes of a stamp are a number.
use Rattle.std.specs.Prelude.{ℕ, ◌+◌, ◌*◌, ◌/◌, ◌%◌, ◌^◌, ◌==◌, Bool, nat_le, if◌then◌else◌, List}
use Rattle.std.specs.Prelude.{Option, Some, None, is_some}
use Rattle.ch11_header.specs.declared.header.Header.{Header}
use Rattle.ch11_f1.specs.BodyReading.{Message}
use Rattle.ch11_layout.specs.declared.stamps.StampKind.{StampKind}
use Rattle.ch11_layout.specs.declared.stamps.StampKind.TheVariants.{Counter, TimeOfDay, Unknown}

-- flag bits 7 and 6: there is a secondary header, and stamps are in its format
abbrev pub is_of_secondary : ℕ → Bool
is_of_secondary flags = nat_le 0xC0 flags

-- flag bits 3 and 2 are 01: that of IEEE 1588
abbrev pub is_ieee_1588 : ℕ → Bool
is_ieee_1588 flags = flags / 4 % 4 == 1

-- what the stamps of a packet are; else they are in ticks of the relative time counter
abbrev pub kind_by : ℕ → StampKind
kind_by flags = if is_of_secondary flags then (if is_ieee_1588 flags then TimeOfDay else Unknown) else Counter

abbrev pub kind_of : Header → StampKind
kind_of h = kind_by h.flags

-- a time of day by IEEE 1588: the upper four bytes seconds, the lower nanoseconds, in ticks of 0.1 µs
abbrev pub ticks_of_day : ℕ → ℕ
ticks_of_day number = number / 2 ^ 32 * 10000000 + number % 2 ^ 32 / 100

-- a stamp in ticks; of one whose meaning is not known the number
abbrev pub ticks_of : StampKind → ℕ → ℕ
ticks_of Counter number = number
ticks_of TimeOfDay number = ticks_of_day number
ticks_of Unknown number = number

-- a recorded message as it is looked at: its stamp as a number and in ticks, and what it is
pub record Recorded : Type 0 where
  pub number : ℕ
  pub kind : StampKind
  pub stamp : ℕ
  pub block : ℕ
  pub gaps : ℕ
  pub bytes : List ℕ

-- a message of a body whose stamps are of this kind
abbrev pub recorded : StampKind → Message → Recorded
recorded kind m = record {
  number = m.stamp;
  kind = kind;
  stamp = ticks_of kind m.stamp;
  block = m.block;
  gaps = m.gaps;
  bytes = m.bytes;
}

-- one whose stamp is a counter
abbrev pub counted : Message → Recorded
counted m = recorded Counter m

-- when it began, in ticks; none where that is not known
abbrev pub time_by : StampKind → ℕ → Option ℕ
time_by Counter ticks = Some ticks
time_by TimeOfDay ticks = Some ticks
time_by Unknown ticks = None

abbrev pub time_of : Recorded → Option ℕ
time_of m = time_by m.kind m.stamp

abbrev pub has_time : Recorded → Bool
has_time m = is_some (time_of m)

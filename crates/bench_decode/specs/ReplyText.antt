-- The status words of a message, each with the names of its bits and its response time (MIL-STD-1553B 4.3.3.5.3,
-- 4.3.3.8; IRIG 106-17 Chapter 11, gap times word).
use Rattle.std.specs.Prelude.{ℕ, ◌+◌, ◌/◌, ◌%◌, ◌^◌, ◌==◌, Bool, true, false, not, ◌&&◌, ◌||◌, if◌then◌else◌}
use Rattle.std.specs.Prelude.{List, [], ◌∷◌, ◌++◌, codes, decimal, Option, None, Some, is_some}
use Rattle.mil_word.specs.Fields.{address_of}
use Rattle.ch11_layout.specs.Stamps.{Recorded}
use Rattle.ch11_layout.specs.Layouts.{is_between, first_gap, second_gap}
use Rattle.ch11_layout.specs.Replies.{front_reply, back_reply}
use Rattle.ch11_layout.specs.declared.view.Reply.{Reply}
use Rattle.bench_dump.specs.DumpText.{word_digits}
use Rattle.bench_decode.specs.Columns.{Part, text, begin_red, end_red}
use Rattle.bench_decode.specs.BitText.{status_names}

-- a gap in microseconds, from ticks of 0.1 µs
unfoldable pub gap_parts : ℕ → List Part
gap_parts gap = text (32 ∷ decimal (gap / 10)) ∷ text (46 ∷ (48 + gap % 10) ∷ codes " us") ∷ []

-- a status word is of the terminal that is due
abbrev pub is_due : Reply → Bool
is_due r = address_of r.status == r.due

-- the terminal that a status word is of, where another one is due
unfoldable pub sender_parts : Reply → List Part
sender_parts r =
    if is_due r then [] else text (codes " from " ++ decimal (address_of r.status)) ∷ []

-- a status word of the terminal that is due, with none of its bits set
abbrev pub is_plain : Reply → Bool
is_plain r = is_due r && (r.status % 2 ^ 11 == 0)

unfoldable pub mark_parts : Reply → List Part
mark_parts r = if is_plain r then [] else begin_red ∷ (sender_parts r ++ (status_names r.status ++ end_red ∷ []))

unfoldable pub reply_parts : Reply → List Part
reply_parts r = text (word_digits r.status) ∷ (mark_parts r ++ gap_parts r.gap)

unfoldable pub front_parts : Option Reply → List Part
front_parts None = []
front_parts (Some r) = reply_parts r

-- a gap behind which no status word stands; none is 0
unfoldable pub lone_gap : ℕ → List (List Part)
lone_gap gap = if gap == 0 then [] else (text (codes "no status word") ∷ gap_parts gap) ∷ []

unfoldable pub entry_of : Option Reply → List (List Part)
entry_of None = []
entry_of (Some r) = reply_parts r ∷ []

-- Of a transfer the first gap is the transmitter's, whose status word stands in front, and the second the receiver's,
-- whose stands behind; of any other message the first is that of its only status word.
abbrev pub first_told : Recorded → Bool
first_told m = is_some (front_reply m) || (is_some (back_reply m) && not (is_between m))

abbrev pub second_told : Recorded → Bool
second_told m = is_some (back_reply m) && is_between m

abbrev pub first_left : Recorded → ℕ
first_left m = if first_told m then 0 else first_gap m

abbrev pub second_left : Recorded → ℕ
second_left m = if second_told m then 0 else second_gap m

-- what parts an entry from what stands before it, if anything does
unfoldable pub parting : Bool → List Part
parting any = if any then text (codes ", ") ∷ [] else []

-- entries, one behind the other
unfoldable pub listed : Bool → List (List Part) → List Part
listed any [] = []
listed any (e ∷ es) = parting any ++ (e ++ listed true es)

abbrev pub is_any : List (List Part) → Bool
is_any [] = false
is_any (e ∷ es) = true

unfoldable pub or_none : Bool → List Part
or_none any = if any then [] else text (codes "-") ∷ []

-- what is told of the replies of a message
abbrev pub entries : Recorded → List (List Part)
entries m =
    entry_of (front_reply m)
    ++ (entry_of (back_reply m) ++ (lone_gap (first_left m) ++ lone_gap (second_left m)))

unfoldable pub replies_parts : Recorded → List Part
replies_parts m = listed false (entries m) ++ or_none (is_any (entries m))

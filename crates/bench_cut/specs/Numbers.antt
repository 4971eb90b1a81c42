-- How loss stays visible in what was cut (own choice): in the sequence numbers of a channel's packets, and in their
-- overflow flags (IRIG 106-17 Chapter 11, packet header). Packets in front of one stand newest first.
use Rattle.std.specs.Prelude.{ℕ, ◌+◌, ◌-◌, ◌%◌, ◌==◌, Bool, false, not, ◌&&◌, ◌||◌, if◌then◌else◌, List, [], ◌∷◌}
use Rattle.ch11_header.specs.Flags.{has_overflow}
use Rattle.bench_cut.specs.Parts.{Part, goes_over}

abbrev pub is_of : ℕ → Part → Bool
is_of channel p = p.header.channel == channel

-- a packet of the channel went over
abbrev pub went_over : ℕ → List Part → Bool
went_over channel [] = false
went_over channel (p ∷ earlier) = is_of channel p && goes_over p || went_over channel earlier

-- how many of the channel's packets were left out behind the first of them that went over
abbrev pub left_out : ℕ → List Part → ℕ
left_out channel [] = 0
left_out channel (p ∷ earlier) =
    (if is_of channel p && not (goes_over p) && went_over channel earlier then 1 else 0) + left_out channel earlier

-- the sequence number of a packet that goes over: its own, less how many were left out
abbrev pub number_behind : List Part → Part → ℕ
number_behind earlier p = (p.header.sequence + (256 - left_out p.header.channel earlier % 256)) % 256

-- a packet of the channel that was left out, behind the last one that went over, had the overflow flag
abbrev pub is_owed : ℕ → List Part → Bool
is_owed channel [] = false
is_owed channel (p ∷ earlier) =
    if is_of channel p then not (goes_over p) && (has_overflow p.header || is_owed channel earlier)
    else is_owed channel earlier

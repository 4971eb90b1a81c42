-- Stretches of a channel's messages, in which no stamp falls (own choice). A stamp that is lower than the one before it
-- in the channel begins another recording, as where recordings stand one behind the other: what lies between the two is
-- no time of the bus. Messages and stretches stand newest first.
use Rattle.std.specs.Prelude.{ℕ, ◌+◌, ◌-◌, ◌^◌, Bool, true, false, nat_lt, if◌then◌else◌, List, [], ◌∷◌, map, min}
use Rattle.std.specs.Prelude.{max}
use Rattle.std.specs.List.{sum_by}
use Rattle.ch11_layout.specs.Stamps.{Recorded}
use Rattle.ch11_reader.specs.Contents.{capped}
use Rattle.bench_stat.specs.declared.stretches.Stretches.{Stretches}
use Rattle.bench_stat.specs.Measures.{one_if, end_of, least, greatest}

-- the latest stamp; no stamp is lower than that of no messages
abbrev pub latest_stamp : List Recorded → ℕ
latest_stamp [] = 0
latest_stamp (m ∷ earlier) = m.stamp

abbrev pub is_fall : List Recorded → Recorded → Bool
is_fall earlier m = nat_lt m.stamp (latest_stamp earlier)

-- how often stamps fall
abbrev pub falls : List Recorded → ℕ
falls [] = 0
falls (m ∷ earlier) = one_if (is_fall earlier m) + falls earlier

-- stretches with one more message, which begins one or goes on with the latest
abbrev pub with_next : Bool → Recorded → List (List Recorded) → List (List Recorded)
with_next true m ss = (m ∷ []) ∷ ss
with_next false m [] = (m ∷ []) ∷ []
with_next false m (s ∷ ss) = (m ∷ s) ∷ ss

abbrev pub stretches : List Recorded → List (List Recorded)
stretches [] = []
stretches (m ∷ earlier) = with_next (is_fall earlier m) m (stretches earlier)

-- from the least stamp of a stretch to the greatest end of a message
abbrev pub begin_of : List Recorded → ℕ
begin_of s = least (2 ^ 64 - 1) (map (λ (m : Recorded). m.stamp) s)

abbrev pub end_of_all : List Recorded → ℕ
end_of_all s = greatest (map end_of s)

abbrev pub span_of_stretch : List Recorded → ℕ
span_of_stretch s = end_of_all s - begin_of s

-- the span of messages: that of all their stretches, in ticks
abbrev pub span : List Recorded → ℕ
span history = capped (sum_by span_of_stretch (stretches history))

-- what is kept of stretches: the latest one, and the time that those before it take
abbrev pub latest_of : List (List Recorded) → List Recorded
latest_of [] = []
latest_of (s ∷ ss) = s

abbrev pub before_latest : List (List Recorded) → List (List Recorded)
before_latest [] = []
before_latest (s ∷ ss) = ss

abbrev pub kept_of : ℕ → ℕ → List (List Recorded) → Stretches
kept_of fallen stamp ss = record {
  falls = capped fallen;
  past = capped (sum_by span_of_stretch (before_latest ss));
  latest = stamp;
  begin = begin_of (latest_of ss);
  «end» = end_of_all (latest_of ss);
}

abbrev pub stretches_of : List Recorded → Stretches
stretches_of history = kept_of (falls history) (latest_stamp history) (stretches history)

-- the time that they take
abbrev pub kept_span : Stretches → ℕ
kept_span t = capped (t.past + (t.«end» - t.begin))

-- one more message
abbrev pub with_fall : Stretches → Stretches
with_fall t = record t {
  falls = capped (t.falls + 1);
  past = kept_span t;
  begin = 2 ^ 64 - 1;
  «end» = 0;
}

abbrev pub with_stamp : Recorded → Stretches → Stretches
with_stamp m t = record t { latest = m.stamp; begin = min m.stamp t.begin; «end» = max (end_of m) t.«end» }

abbrev pub with_stretch : Recorded → Stretches → Stretches
with_stretch m t = with_stamp m (if nat_lt m.stamp t.latest then with_fall t else t)

-- What is probably a mistake in a job that was tried (own choice), in the order in which it is told.
use Rattle.std.specs.Prelude.{ℕ, zero, suc, ◌-◌, ◌==◌, ◌&&◌, not, nat_lt, Bool, true, false, if◌then◌else◌}
use Rattle.std.specs.Prelude.{List, [], ◌∷◌, ◌++◌, length, take, map, Option, Some, None, slice_get}
use Rattle.std.specs.List.{flat_map, list_any}
use Rattle.mil_line.specs.Plans.{Planned}
use Rattle.bc_machine.specs.declared.placed.Placed.{Placed}
use Rattle.job_file.specs.Jobs.{JobState}
use Rattle.bench_check.specs.declared.calls.Calls.{Calls}
use Rattle.bench_check.specs.declared.findings.Findings.{Findings}
use Rattle.bench_check.specs.declared.fitting.Tight.{Tight}
use Rattle.bench_check.specs.declared.frames.Overrun.{Overrun}
use Rattle.bench_check.specs.declared.mistakes.Mistake.{Mistake}
use Rattle.bench_check.specs.declared.mistakes.Mistake.TheVariants as kinds
use Rattle.bench_check.specs.declared.oddities.Oddities.{Oddities}

-- a number that is kept at a place; 0 where there is none
abbrev pub kept : Option ℕ → ℕ
kept None = 0
kept (Some n) = n

-- how many commands call an address, and the number of the first message that does
abbrev pub calls_of : Calls → ℕ → ℕ
calls_of calls address = kept (slice_get calls.counts address)

abbrev pub first_call_of : Calls → ℕ → ℕ
first_call_of calls address = kept (slice_get calls.firsts address)

-- the number of the first message that transmits from a subaddress where no words were put up
abbrev pub kept_in : Option (List ℕ) → ℕ → ℕ
kept_in None sub = 0
kept_in (Some firsts) sub = kept (slice_get firsts sub)

abbrev pub first_unfilled : Oddities → ℕ → ℕ → ℕ
first_unfilled o address sub = kept_in (slice_get o.unfilled address) sub

-- a planned fault that meets nothing, where so many messages were sent
abbrev pub unmet_of : ℕ → Planned → Mistake
unmet_of made p = if nat_lt made p.0 then kinds.Unsent p.0 p.1 else kinds.Unmet p.0 p.1

abbrev pub unmet_of_all : ℕ → List Planned → List Mistake
unmet_of_all made unmet = map (unmet_of made) unmet

-- the frames that may take longer than their period: so many of them, and how many more there are
abbrev pub shown : ℕ
shown = 3

abbrev pub shown_of : List Tight → List Tight
shown_of tight = if nat_lt shown (length tight) then take shown tight else tight

abbrev pub named : List Tight → List Mistake
named tight = map kinds.Tight tight

abbrev pub more_tight : ℕ → List Mistake
more_tight count = if nat_lt shown count then kinds.MoreTight (count - shown) ∷ [] else []

abbrev pub tight_of : List Tight → List Mistake
tight_of tight = named (shown_of tight) ++ more_tight (length tight)

-- the frames that took longer than their period
abbrev pub late_of : List Overrun → List Mistake
late_of overruns = map kinds.Late overruns

-- an action that no message reaches
abbrev pub undone_at : ℕ → Placed → List Mistake
undone_at made p = if nat_lt made p.number then kinds.Undone p ∷ [] else []

-- what no message of the script carries
abbrev pub uncarried_of : List Placed → List Mistake
uncarried_of uncarried = map kinds.Uncarried uncarried

-- a terminal that is called and is not there
abbrev pub stranger_at : List ℕ → Calls → ℕ → List Mistake
stranger_at addresses calls address =
    if nat_lt 0 (calls_of calls address) && not (list_any (λ a. a == address) addresses)
    then kinds.Stranger address (first_call_of calls address) (calls_of calls address) ∷ []
    else []

-- those below an address, by address
abbrev pub strangers_below : List ℕ → Calls → ℕ → List Mistake
strangers_below addresses calls zero = []
strangers_below addresses calls (suc address) =
    strangers_below addresses calls address ++ stranger_at addresses calls address

-- a terminal that is there and is never called, also not by a message to all
abbrev pub uncalled_at : Calls → ℕ → List Mistake
uncalled_at calls address =
    if calls_of calls address == 0 && calls_of calls 31 == 0 then kinds.Uncalled address ∷ [] else []

-- a subaddress from which a terminal transmits, and where no words were put up
abbrev pub unfilled_at : Oddities → ℕ → ℕ → List Mistake
unfilled_at o address sub =
    if nat_lt 0 (first_unfilled o address sub)
    then kinds.Unfilled address sub (first_unfilled o address sub) ∷ []
    else []

-- those from 1 to a subaddress
abbrev pub unfilled_up_to : Oddities → ℕ → ℕ → List Mistake
unfilled_up_to o address zero = []
unfilled_up_to o address (suc sub) = unfilled_up_to o address sub ++ unfilled_at o address (suc sub)

abbrev pub unfilled_of : Oddities → ℕ → List Mistake
unfilled_of o address = unfilled_up_to o address 30

-- messages that were answered with the message error bit and not sent again
abbrev pub left_of : Oddities → List Mistake
left_of o = if nat_lt 0 o.left then kinds.Left o.first_left o.left ∷ [] else []

-- what is told where all is asked for
abbrev pub further : Bool → List ℕ → Oddities → List Mistake
further false addresses o = []
further true addresses o = flat_map (unfilled_of o) addresses ++ left_of o

-- all that is probably a mistake in a job, of which this was found and these frames may not fit into their period
abbrev pub mistakes : Bool → JobState → Findings → List Tight → List Mistake
mistakes is_all job f tight =
    unmet_of_all f.made f.unmet.items
    ++ (tight_of tight
    ++ (late_of f.overruns.items
    ++ (flat_map (undone_at f.made) job.actions
    ++ (uncarried_of f.uncarried.items
    ++ (strangers_below job.addresses f.calls 31
    ++ (flat_map (uncalled_at f.calls) job.addresses ++ further is_all job.addresses f.oddities))))))

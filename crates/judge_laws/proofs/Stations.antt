-- Stations that take no part in a message.
use Rattle.std.proofs.Common.{◌≡◌, ℕ, ◌<◌, ◌^◌, ◌==◌, Bool, true, false, ◌&&◌, ◌||◌, List, [], ◌∷◌, map, refl, sym, ap, ◌∙◌, Some, None}
use Rattle.std.specs.Prelude.{not, nat_le, if◌then◌else◌}
use Rattle.std.specs.List.{list_any, AllByRecursion}
use Rattle.std.specs.Option.{option_or}
use Rattle.std.proofs.lemmas.Bool.{and_parts, eqb-true}
use Rattle.mil_word.specs.declared.Line.{Line}
use Rattle.mil_word.specs.Words.{command_wave, data_wave}
use Rattle.mil_word.specs.Fields.{address_of, is_broadcast}
use Rattle.mil_terminal.specs.declared.events.Event.TheVariants.{Heard, Quiet}
use Rattle.mil_terminal.specs.Host.{is_deaf, is_off, takes_broadcast}
use Rattle.mil_terminal.specs.History.{History}
use Rattle.mil_terminal.proofs.Passing.{words_off, words_on}
use Rattle.mil_terminal.specs.Station.{Station, after}
use Rattle.mil_terminal.specs.Runs.{heard, after_all}
use Rattle.mil_terminal.specs.Windows.{opening}
use Rattle.mil_bus.specs.declared.talks.Source.{Source}
use Rattle.mil_bus.specs.declared.talk_runs.Run.{Run}
use Rattle.mil_bus.specs.Actions.{station_of}
use Rattle.mil_bus.specs.Addresses.{is_fit}
use Rattle.mil_bus.specs.Exchange.{Offer, contiguous_run, misses, quieted, answer, first_reply}
use Rattle.mil_bus.specs.DataRuns.{hearing_all}
use Rattle.mil_bus.proofs.Answering.{answer-none}
use Rattle.mil_bus.proofs.DataRuns.{run-missed, run-heard}
use Rattle.judge_laws.proofs.Words.{AreSmall, command-read, data-no_commands}
use Rattle.judge_laws.proofs.Rest.{Rests, rests-word, rests-words, rests-quiet, rests-reply}

abbrev pub Idle : Station → Type 0
Idle s = Rests s.own s.history

pub idle-answer : (line : Line) (s : Station) → Idle s → answer line s ≡ None
idle-answer line s is = answer-none line s (rests-reply s.own line s.history is)

pub idle-quiet : (line : Line) (s : Station) → Idle s → Idle (quieted line s)
idle-quiet line s is = go (is_deaf line s.history)
  where
    after-quiet : (b : Bool) → Rests s.own (if b then s.history else Quiet line ∷ s.history)
    after-quiet true = is
    after-quiet false = rests-quiet s.own line s.history is

    go : (b : Bool) → Idle (if b then s else after s (Quiet line))
    go true = is
    go false = after-quiet (is_off s.history)

-- a command to another terminal is not to this one
not-to : (a b takes : Bool) → (a || b) ≡ false → (a || b && takes) ≡ false
not-to true b takes other = cc
not-to false true takes other = cc
not-to false false takes other = refl

pub opens-other : (own : ℕ) (line : Line) (c gap : ℕ) (h : History) → c < 2 ^ 16 → (address_of c == own || is_broadcast c) ≡ false → opening own (Heard line (command_wave c) gap) h ≡ None
opens-other own line c gap h small other = rw (command-read c small, not-to (address_of c == own) (is_broadcast c) (takes_broadcast h) other) refl

-- a run whose first word is a command or a status word of another address
pub idle-run : (line : Line) (run : ℕ) (source : Source) (gap c : ℕ) (values : List ℕ) (s : Station) → c < 2 ^ 16 → AreSmall values → (misses line source s ≡ false → (address_of c == s.own || is_broadcast c) ≡ false) → Idle s
    → Idle (hearing_all line (contiguous_run run source gap (command_wave c ∷ map data_wave values)) s)
idle-run line run source gap c values s small words other is = go (misses line source s) refl
  where
    r : Run
    r = record { number = run; source = source; gap = gap }

    waves : List ℕ
    waves = command_wave c ∷ map data_wave values

    later : (b : Station) → b ≡ hearing_all line (contiguous_run run source gap waves) s → Idle b → Idle (hearing_all line (contiguous_run run source gap waves) s)
    later b same idle = rw (← same) idle

    when : (b : Bool) → is_off s.history ≡ b → misses line source s ≡ false → Idle (after_all s (heard line gap waves))
    when true off hears = rw (words_off s line gap waves off) is
    when false on hears =
        rw (words_on s line gap waves on)
        (rests-words s.own line 20 (map data_wave values) (Heard line (command_wave c) gap ∷ s.history) (data-no_commands values words)
        (rests-word s.own line (command_wave c) gap s.history (opens-other s.own line c gap s.history small (other hears)) is))

    go : (b : Bool) → misses line source s ≡ b → Idle (hearing_all line (contiguous_run run source gap waves) s)
    go true missed = later s (run-missed line r waves s missed) is
    go false hears = later (after_all s (heard line gap waves)) (run-heard line r waves s hears) (when (is_off s.history) refl hears)

-- the one station of an address answers
pub finds-offer : (line : Line) (address : ℕ) (o : Offer) (f : Station → Station) (stations : List Station)
    → AllByRecursion (λ s. answer line (f s) ≡ (if s.own == address then Some o else None)) stations → list_any (λ s. s.own == address) stations ≡ true
    → first_reply line (map f stations) ≡ Some o
finds-offer line address o f [] all there = cc
finds-offer line address o f (s ∷ ss) all there = go (λ found. finds-offer line address o f ss all.1 found) (s.own == address) refl
  where
    go : (list_any (λ (t : Station). t.own == address) ss ≡ true → first_reply line (map f ss) ≡ Some o) → (b : Bool) → (s.own == address) ≡ b → first_reply line (map f (s ∷ ss)) ≡ Some o
    go later true same =
        let own : answer line (f s) ≡ Some o = all.0 ∙ rw same refl in
        ap (λ a. option_or a (first_reply line (map f ss))) own
    go later false other =
        let own : answer line (f s) ≡ None = all.0 ∙ rw other refl in
        let rest : list_any (λ (t : Station). t.own == address) ss ≡ true = ap (λ b. b || list_any (λ (t : Station). t.own == address) ss) (sym other) ∙ there in
        ap (λ a. option_or a (first_reply line (map f ss))) own ∙ later rest

-- an address that a fit list has stands there once
not_any : (a : ℕ) (b : Station → Bool) (ss : List Station) → list_any (λ n. n == a) (map (λ (s : Station). s.own) ss) ≡ false → AllByRecursion (λ (s : Station). (s.own == a) ≡ false) ss
not_any a b [] none = tt
not_any a b (s ∷ ss) none = go (λ left. not_any a b ss left) (s.own == a) refl
  where
    go : (list_any (λ n. n == a) (map (λ (t : Station). t.own) ss) ≡ false → AllByRecursion (λ (t : Station). (t.own == a) ≡ false) ss) → (here : Bool) → (s.own == a) ≡ here → AllByRecursion (λ (t : Station). (t.own == a) ≡ false) (s ∷ ss)
    go rest true is = let no : true ≡ false = sym (ap (λ x. x || list_any (λ n. n == a) (map (λ (t : Station). t.own) ss)) is) ∙ none in cc
    go rest false is = (is, rest (ap (λ x. x || list_any (λ n. n == a) (map (λ (t : Station). t.own) ss)) (sym is) ∙ none))

all-but : (address : ℕ) (t : Station) (ss : List Station) → AllByRecursion (λ (s : Station). (s.own == address) ≡ false) ss → AllByRecursion (λ (s : Station). (s.own == address) ≡ true → s ≡ t) ss
all-but address t [] all = tt
all-but address t (s ∷ ss) all = (λ is. let no : false ≡ true = sym all.0 ∙ is in cc, all-but address t ss all.1)

pub record IsFound (address : ℕ) (t : Station) (stations : List Station) : Type 0 where
  pub own : t.own ≡ address
  pub there : list_any (λ (s : Station). s.own == address) stations ≡ true
  pub one : AllByRecursion (λ (s : Station). (s.own == address) ≡ true → s ≡ t) stations

not_false : (b : Bool) → not b ≡ true → b ≡ false
not_false true is = cc
not_false false is = refl

or_right : (a b : Bool) → b ≡ true → (a || b) ≡ true
or_right true b is = refl
or_right false b is = is

pub found-one : (address : ℕ) (t : Station) (stations : List Station) → is_fit (map (λ (s : Station). s.own) stations) ≡ true → station_of address stations ≡ Some t → IsFound address t stations
found-one address t [] fit found = cc
found-one address t (s ∷ ss) fit found = go (λ fine left. found-one address t ss fine left) (s.own == address) refl
  where
    owns : List ℕ
    owns = map (λ (x : Station). x.own) ss

    parts : ((nat_le s.own 30 && not (list_any (λ b. b == s.own) owns)) ≡ true) × (is_fit owns ≡ true)
    parts = and_parts (nat_le s.own 30 && not (list_any (λ b. b == s.own) owns)) (is_fit owns) fit

    apart : list_any (λ b. b == s.own) owns ≡ false
    apart = not_false (list_any (λ b. b == s.own) owns) (and_parts (nat_le s.own 30) (not (list_any (λ b. b == s.own) owns)) parts.0).1

    go : (is_fit owns ≡ true → station_of address ss ≡ Some t → IsFound address t ss) → (b : Bool) → (s.own == address) ≡ b → IsFound address t (s ∷ ss)
    go later true here =
        let at : s.own ≡ address = eqb-true s.own address here in
        let same : Some s ≡ Some t = sym (ap (λ x. if x then Some s else station_of address ss) here) ∙ found in
        let is : s ≡ t = cc in
        record {
          own = ap (λ (x : Station). x.own) (sym is) ∙ at;
          there = ap (λ x. x || list_any (λ (y : Station). y.own == address) ss) here;
          one = (λ _. is, all-but address t ss (rw at at (not_any s.own (λ x. true) ss apart)));
        }
    go later false other =
        let rest = later parts.1 (ap (λ x. if x then Some s else station_of address ss) (sym other) ∙ found) in
        record {
          own = rest.own;
          there = or_right (s.own == address) (list_any (λ (y : Station). y.own == address) ss) rest.there;
          one = (λ is. let no : false ≡ true = sym other ∙ is in cc, rest.one);
        }

-- each address is at most 30
pub are-low : (ss : List Station) → is_fit (map (λ (s : Station). s.own) ss) ≡ true → AllByRecursion (λ (s : Station). nat_le s.own 30 ≡ true) ss
are-low [] fit = tt
are-low (s ∷ ss) fit =
    let owns = map (λ (x : Station). x.own) ss in
    let parts = and_parts (nat_le s.own 30 && not (list_any (λ b. b == s.own) owns)) (is_fit owns) fit in
    ((and_parts (nat_le s.own 30) (not (list_any (λ b. b == s.own) owns)) parts.0).0, are-low ss parts.1)

-- A message to one terminal that it replies to.
use Rattle.std.proofs.Common.{◌≡◌, ℕ, suc, ◌+◌, ◌-◌, ◌%◌, ◌<◌, ◌≤◌, ◌^◌, ◌==◌, Bool, true, false, ◌||◌, List, [], ◌∷◌, ◌++◌, map, length, refl, sym, ap, subst, ◌∙◌, arith, Some, None}
use Rattle.std.specs.Prelude.{if◌then◌else◌}
use Rattle.std.specs.List.{list_any, AllByRecursion}
use Rattle.std.proofs.lemmas.List.{length-map}
use Rattle.std.proofs.lemmas.Bool.Decides.{nat_tests}
use Rattle.mil_word.specs.declared.Line.{Line}
use Rattle.mil_word.specs.Words.{command_wave, data_wave}
use Rattle.mil_word.specs.Fields.{address_of, is_broadcast}
use Rattle.mil_message.specs.declared.forms.Due.{Due}
use Rattle.mil_message.specs.declared.forms.Form.{Form}
use Rattle.mil_message.specs.Forms.{controller_waves}
use Rattle.mil_terminal.specs.declared.events.Event.TheVariants.{Quiet}
use Rattle.mil_terminal.specs.History.{History}
use Rattle.mil_terminal.specs.Host.{told_deaf, told_off, is_deaf, is_off, is_busy, response_gap}
use Rattle.mil_terminal.proofs.Passing.{words_on, quiet_on}
use Rattle.mil_terminal.specs.Station.{Station, after}
use Rattle.mil_terminal.specs.Status.{status}
use Rattle.mil_terminal.specs.Verdicts.{words_due}
use Rattle.mil_terminal.specs.Replies.{data_sent}
use Rattle.mil_bus.specs.declared.talks.Source.{Source}
use Rattle.mil_bus.specs.declared.talks.Source.TheVariants.{Controller, Terminal}
use Rattle.mil_bus.specs.declared.talks.Sent.{Sent}
use Rattle.mil_bus.specs.declared.talk_runs.Run.{Run}
use Rattle.mil_bus.specs.Actions.{station_of}
use Rattle.mil_bus.specs.Exchange.{BusState, Offer, contiguous_run, quieted, answer, first_reply, next_offer, all_hearing, quiet_after, controllers, last_on, gap_since, talk_start, exchange_of, talk_of}
use Rattle.mil_bus.specs.DataRuns.{hearing_all}
use Rattle.mil_bus.specs.Index.{IsClosed}
use Rattle.mil_bus.proofs.DataRuns.{run-heard}
use Rattle.judge_laws.specs.Messages.{AreReady, CanReply, IsAnswered}
use Rattle.judge_laws.proofs.Words.{AreSmall, all-through}
use Rattle.judge_laws.proofs.Turns.{turn-then, last-turn, nobody, all-hear}
use Rattle.judge_laws.proofs.Rest.{closed-rests, set-stays}
use Rattle.judge_laws.proofs.Statuses.{status-is}
use Rattle.judge_laws.proofs.Stations.{Idle, idle-answer, idle-quiet, idle-run, finds-offer, found-one}
use Rattle.judge_laws.proofs.Replying.{low_words, low-small, past, gives, rests-then, free-then}

or-false : (a b : Bool) → a ≡ false → b ≡ false → (a || b) ≡ false
or-false a b x y = rw (x, y) refl

not-to-all : (n : ℕ) → n ≤ 30 → (n == 31) ≡ false
not-to-all n low = grind (arith, nat_tests)

-- the words of a command to one address do not call another
pub other-called : (c address own : ℕ) → address_of c ≡ address → address ≤ 30 → (own == address) ≡ false → (address_of c == own || is_broadcast c) ≡ false
other-called c address own mine low other =
    let no : (address == own) ≡ false = grind (arith, nat_tests) in
    or-false (address_of c == own) (is_broadcast c) (ap (λ n. n == own) mine ∙ no) (ap (λ n. n == 31) mine ∙ not-to-all address low)

abbrev controllers_words : ℕ → ℕ → List ℕ → List Sent
controllers_words c g values = contiguous_run 0 Controller g (command_wave c ∷ map data_wave values)

module _ (line : Line) (c g : ℕ) (values : List ℕ) (small : c < 2 ^ 16) (words : AreSmall values) where
  -- a terminal that hears the command
  takes : (t : Station) → is_off t.history ≡ false → is_deaf line t.history ≡ false → hearing_all line (controllers_words c g values) t ≡ record { own = t.own; history = past t.own line c g values t.history }
  takes t on hears =
      let r : Run = record { number = 0; source = Controller; gap = g } in
      sym (run-heard line r (command_wave c ∷ map data_wave values) t hears) ∙ words_on t line g (command_wave c ∷ map data_wave values) on

  -- each station's answer
  answers : (address : ℕ) (o : Offer) (t s : Station) → address_of c ≡ address → address ≤ 30 → answer line (hearing_all line (controllers_words c g values) t) ≡ Some o
      → ((s.own == address) ≡ true → s ≡ t) → Idle s → answer line (hearing_all line (controllers_words c g values) s) ≡ (if s.own == address then Some o else None)
  answers address o t s mine low given one idle = go (s.own == address) refl
    where
      go : (b : Bool) → (s.own == address) ≡ b → answer line (hearing_all line (controllers_words c g values) s) ≡ (if s.own == address then Some o else None)
      go true same = ap (λ (x : Station). answer line (hearing_all line (controllers_words c g values) x)) (one same) ∙ given ∙ sym (ap (λ b. if b then Some o else None) same)
      go false other =
          idle-answer line (hearing_all line (controllers_words c g values) s) (idle-run line 0 Controller g c values s small words (λ _. other-called c address s.own mine low other) idle)
          ∙ sym (ap (λ b. if b then Some o else None) other)

  -- after the quiet no window is open
  then-idle : (address : ℕ) (t s : Station) → address_of c ≡ address → address ≤ 30 → t.own ≡ address → is_off t.history ≡ false → is_deaf line t.history ≡ false
      → ((s.own == address) ≡ true → s ≡ t) → Idle s → Idle (quieted line (hearing_all line (controllers_words c g values) s))
  then-idle address t s mine low own on hears one idle = go (s.own == address) refl
    where
      after-quiet : (x : Station) → hearing_all line (controllers_words c g values) t ≡ x → is_deaf line x.history ≡ false → Idle (after x (Quiet line)) → Idle (quieted line (hearing_all line (controllers_words c g values) t))
      after-quiet x is deaf idle_then = subst (λ (y : Station). Idle (quieted line y)) (sym is) (rw deaf idle_then)

      deaf-still : (x : Station) → is_deaf line x.history ≡ false → is_deaf line (past x.own line c g values x.history) ≡ false
      deaf-still x is = set-stays (told_deaf line) false line g (command_wave c ∷ map data_wave values) x.history ∙ is

      on-still : (x : Station) → is_off x.history ≡ false → is_off (past x.own line c g values x.history) ≡ false
      on-still x is = set-stays told_off false line g (command_wave c ∷ map data_wave values) x.history ∙ is

      go : (b : Bool) → (s.own == address) ≡ b → Idle (quieted line (hearing_all line (controllers_words c g values) s))
      go true same =
          let is = one same in
          let x : Station = record { own = t.own; history = past t.own line c g values t.history } in
          rw is (after-quiet x (takes t on hears) (deaf-still t hears) (subst Idle (sym (quiet_on x line (on-still t on))) (rests-then t.own line c g values t.history small words (mine ∙ sym own))))
      go false other = idle-quiet line (hearing_all line (controllers_words c g values) s) (idle-run line 0 Controller g c values s small words (λ _. other-called c address s.own mine low other) idle)

pub or-first : (a b : Bool) → (a || b) ≡ false → a ≡ false
or-first true b is = is
or-first false b is = refl

pub turned : (m n : ℕ) → (m == n) ≡ false → (n == m) ≡ false
turned m n is = grind (arith, nat_tests)

-- a reply heard by a station at rest
heard-idle : (line : Line) (address gap status : ℕ) (values : List ℕ) (s : Station) → status < 2 ^ 16 → AreSmall values → address_of status ≡ address → address ≤ 30 → Idle s
    → Idle (hearing_all line (contiguous_run 1 (Terminal address) gap (command_wave status ∷ map data_wave values)) s)
heard-idle line address gap status values s small words mine low idle =
    idle-run line 1 (Terminal address) gap status values s small words
    (λ heard. other-called status address s.own mine low (turned address s.own (or-first (address == s.own) (is_deaf line s.history) heard))) idle

pub zip : {X : Type 0} (P Q : X → Type 0) (xs : List X) → AllByRecursion P xs → AllByRecursion Q xs → AllByRecursion (λ x. P x × Q x) xs
zip P Q [] p q = tt
zip P Q (x ∷ xs) p q = ((p.0, q.0), zip P Q xs p.1 q.1)

pub each : {X : Type 0} (P Q : X → Type 0) → ((x : X) → P x → Q x) → (xs : List X) → AllByRecursion P xs → AllByRecursion Q xs
each P Q step [] all = tt
each P Q step (x ∷ xs) all = (step x all.0, each P Q step xs all.1)

-- what holds of all stations holds of one that is among them
pub of-one : (P : Station → Type 0) (address : ℕ) (t : Station) (ss : List Station) → AllByRecursion P ss → AllByRecursion (λ (s : Station). (s.own == address) ≡ true → s ≡ t) ss
    → list_any (λ (s : Station). s.own == address) ss ≡ true → P t
of-one P address t [] all one there = absurd cc
of-one P address t (s ∷ ss) all one there = go (λ found. of-one P address t ss all.1 one.1 found) (s.own == address) refl
  where
    go : (list_any (λ (x : Station). x.own == address) ss ≡ true → P t) → (b : Bool) → (s.own == address) ≡ b → P t
    go rest true here = let is : s ≡ t = one.0 here in rw (← is) all.0
    go rest false other = rest (ap (λ b. b || list_any (λ (x : Station). x.own == address) ss) (sym other) ∙ there)

pub words-long : (run : ℕ) (source : Source) (gap : ℕ) (waves : List ℕ) → length (contiguous_run run source gap waves) ≡ length waves
words-long run source gap [] = refl
words-long run source gap (w ∷ ws) = ap suc (words-long run source 20 ws)

pub one-reply : (b : BusState) (line : Line) (form : Form) (gap c : ℕ) (values : List ℕ) (due : Due) (t : Station) → controller_waves form ≡ command_wave c ∷ map data_wave values
    → c < 2 ^ 16 → AreSmall values → address_of c ≡ due.address → due.address ≤ 30 → words_due c ≡ length values → length values + due.words ≤ 32
    → AreReady b.stations → station_of due.address b.stations ≡ Some t → CanReply line c t
    → ((h : History) → is_busy h ≡ false → length (data_sent t.own c h) ≡ due.words) → IsAnswered b line form gap due
unfolding talk_of exchange_of
one-reply b line form gap c values due t is small words mine low announced fits ready found can many =
    let a = due.address in
    let g = gap_since (last_on line b.talks) (talk_start b gap) in
    let f = found-one a t b.stations ready.apart found in
    let idle : AllByRecursion Idle b.stations = each IsClosed Idle closed-rests b.stations ready.at_rest in
    let idle_one : Idle t = of-one Idle a t b.stations idle f.one f.there in
    let own : address_of c ≡ t.own = mine ∙ sym f.own in
    let low_own : t.own ≤ 30 = omega (arith, f.own, low) in
    let h = past t.own line c g values t.history in
    let st = status t.own (Quiet line ∷ h) in
    let vs = low_words (data_sent t.own c h) in
    let vs_small = low-small (data_sent t.own c h) in
    let s_is = status-is t.own (Quiet line ∷ h) low_own in
    let st_mine : address_of st ≡ a = s_is.address ∙ f.own in
    let reply = command_wave st ∷ map data_wave vs in
    let o : Offer = record { source = Terminal a; gap = response_gap t.history; waves = reply } in
    let first = controllers_words c g values in
    let given : answer line (hearing_all line first t) ≡ Some o =
    ap (answer line) (takes line c g values small words t can.on can.hears)
    ∙ gives t.own line c g values t.history small words own idle_one can.on can.legal announced can.sends can.hears can.speaks
    ∙ ap (λ n. let x : Offer = record { source = Terminal n; gap = response_gap t.history; waves = reply } in Some x) f.own in
    let both = zip Idle (λ (s : Station). (s.own == a) ≡ true → s ≡ t) b.stations idle f.one in
    let offers : AllByRecursion (λ (s : Station). answer line (hearing_all line first s) ≡ (if s.own == a then Some o else None)) b.stations =
    each (λ (s : Station). Idle s × ((s.own == a) ≡ true → s ≡ t)) (λ (s : Station). answer line (hearing_all line first s) ≡ (if s.own == a then Some o else None))
    (λ s p. answers line c g values small words a o t s mine low given p.1 p.0) b.stations both in
    let sent = contiguous_run 0 Controller g (controller_waves form) in
    let same : sent ≡ first = ap (contiguous_run 0 Controller g) is in
    let next : next_offer line sent (all_hearing line sent b.stations) ≡ Some o =
    ap (λ ws. next_offer line ws (all_hearing line ws b.stations)) same
    ∙ ap (first_reply line) (sym (all-hear line first b.stations)) ∙ finds-offer line a o (hearing_all line first) b.stations offers f.there in
    let quiet_now = map (quieted line) (map (hearing_all line first) b.stations) in
    let quiet_is : quiet_after line sent (all_hearing line sent b.stations) ≡ quiet_now =
    ap (λ ws. quiet_after line ws (all_hearing line ws b.stations)) same ∙ ap (map (quieted line)) (sym (all-hear line first b.stations)) in
    let heard_first : AllByRecursion (λ s. Idle (quieted line s)) (map (hearing_all line first) b.stations) =
    all-through (hearing_all line first) (λ (s : Station). Idle s × ((s.own == a) ≡ true → s ≡ t)) (λ s. Idle (quieted line s))
    (λ s p. then-idle line c g values small words a t s mine low f.own can.on can.hears p.1 p.0) b.stations both in
    let idle_now : AllByRecursion Idle quiet_now = all-through (quieted line) (λ s. Idle (quieted line s)) Idle (λ s p. p) (map (hearing_all line first) b.stations) heard_first in
    let second = contiguous_run 1 (Terminal a) (response_gap t.history) reply in
    let silent_each : AllByRecursion (λ s. answer line s ≡ None) (map (hearing_all line second) quiet_now) =
    all-through (hearing_all line second) Idle (λ s. answer line s ≡ None)
    (λ s p. idle-answer line (hearing_all line second s) (heard-idle line a (response_gap t.history) st vs s s_is.below vs_small st_mine low p)) quiet_now idle_now in
    let silent : first_reply line (all_hearing line second (quiet_after line sent (all_hearing line sent b.stations))) ≡ None =
    ap (λ ss. first_reply line (all_hearing line second ss)) quiet_is ∙ ap (first_reply line) (sym (all-hear line second quiet_now)) ∙ nobody line (map (hearing_all line second) quiet_now) silent_each in
    let many_vs : length vs ≡ due.words =
    length-map (data_sent t.own c h) (λ v. v % 2 ^ 16) ∙ many h (free-then t.own line c g values t.history small words own can.free) in
    let long_sent : length sent ≡ 1 + length values = ap (λ (ws : List Sent). length ws) same ∙ words-long 0 Controller g (command_wave c ∷ map data_wave values) ∙ omega (arith, length-map values data_wave) in
    let long_waves : length (controller_waves form) ≡ 1 + length values = ap (λ (ws : List ℕ). length ws) is ∙ omega (arith, length-map values data_wave) in
    let fits_first : length (controller_waves form) ≤ 40 = omega (arith, long_waves, fits) in
    let fits_second : length reply ≤ 40 - length sent = omega (arith, length-map vs data_wave, many_vs, long_sent, fits) in
    record {
      time = response_gap t.history;
      status = st;
      values = vs;
      as_due = record {
        no_sooner = can.no_sooner;
        no_later = can.no_later;
        small = s_is.below;
        address = st_mine;
        reserved = s_is.reserved;
        words = vs_small;
        many = many_vs;
      };
      sent = turn-then 39 0 line (controllers line form (talk_start b gap) b.talks) [] b.stations (Some o) (sent ++ contiguous_run 1 (Terminal a) (response_gap t.history) reply) fits_first next
          (last-turn 38 1 line o sent (quiet_after line sent (all_hearing line sent b.stations)) fits_second silent);
    }

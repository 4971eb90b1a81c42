-- A message to all terminals that nobody answers.
use Rattle.std.proofs.Common.{◌≡◌, ℕ, ◌<◌, ◌≤◌, ◌^◌, ◌==◌, Bool, true, false, ◌&&◌, ◌||◌, List, [], ◌∷◌, map, length, refl, sym, ap, ◌∙◌, arith, Some, None}
use Rattle.std.specs.List.{AllByRecursion}
use Rattle.std.proofs.lemmas.List.{length-map}
use Rattle.std.proofs.lemmas.Bool.Decides.{nat_tests}
use Rattle.mil_word.specs.declared.Line.{Line}
use Rattle.mil_word.specs.Words.{command_wave, data_wave}
use Rattle.mil_word.specs.Fields.{address_of, is_broadcast}
use Rattle.mil_message.specs.declared.forms.Form.{Form}
use Rattle.mil_message.specs.Forms.{controller_waves}
use Rattle.mil_terminal.specs.declared.events.Event.TheVariants.{Heard}
use Rattle.mil_terminal.specs.History.{History}
use Rattle.mil_terminal.specs.Host.{is_deaf, is_off, takes_broadcast}
use Rattle.mil_terminal.specs.Station.{Station}
use Rattle.mil_terminal.specs.Runs.{heard, met, after_all}
use Rattle.mil_terminal.specs.Windows.{is_to, opening}
use Rattle.mil_terminal.specs.Replies.{reply}
use Rattle.mil_terminal.proofs.Passing.{words_off, words_on, reply_off}
use Rattle.mil_bus.specs.declared.talks.Source.TheVariants.{Controller}
use Rattle.mil_bus.specs.declared.talk_runs.Run.{Run}
use Rattle.mil_bus.specs.Exchange.{BusState, contiguous_run, answer, all_hearing, first_reply, controllers, last_on, gap_since, talk_start, exchange_of, talk_of}
use Rattle.mil_bus.specs.DataRuns.{hearing_all}
use Rattle.mil_bus.proofs.Answering.{answer-deaf, answer-none}
use Rattle.mil_bus.proofs.DataRuns.{run-missed, run-heard}
use Rattle.judge_laws.specs.Messages.{AreTerminals, controllers_run}
use Rattle.judge_laws.proofs.Words.{AreSmall, command-read, data-no_commands, all-through}
use Rattle.judge_laws.proofs.Turns.{last-turn, nobody, all-hear}
use Rattle.judge_laws.proofs.Openings.{window-of, other-address}
use Rattle.judge_laws.proofs.Items.{item-reply}

or-true : (a b t : Bool) → b ≡ true → t ≡ true → (a || b && t) ≡ true
or-true true b t x y = refl
or-true false true true x y = refl
or-true false true false x y = cc
or-true false false t x y = cc

and-no : (b : Bool) → (b && false) ≡ false
and-no true = refl
and-no false = refl

-- a station that heard a command to all does not answer
quiet-station : (line : Line) (c g : ℕ) (values : List ℕ) (s : Station) → c < 2 ^ 16 → address_of c ≡ 31 → AreSmall values → s.own ≤ 30
    → answer line (hearing_all line (contiguous_run 0 Controller g (command_wave c ∷ map data_wave values)) s) ≡ None
quiet-station line c g values s small to_all words low = go (is_deaf line s.history) refl
  where
    run : Run
    run = record { number = 0; source = Controller; gap = g }

    waves : List ℕ
    waves = command_wave c ∷ map data_wave values

    other : (address_of c == s.own) ≡ false
    other = rw to_all (grind (arith, nat_tests))

    history : History
    history = met (heard line g waves) s.history

    called : takes_broadcast s.history ≡ true → is_to s.own s.history c ≡ true
    called takes = or-true (address_of c == s.own) (is_broadcast c) (takes_broadcast s.history) (rw to_all refl) takes

    not-called : takes_broadcast s.history ≡ false → opening s.own (Heard line (command_wave c) g) s.history ≡ None
    not-called takes = rw (command-read c small, other, takes, and-no) refl

    met-all : (b : Bool) → takes_broadcast s.history ≡ b → reply s.own line history ≡ None
    met-all true takes = other-address s.own line c (heard line 20 (map data_wave values)) history (window-of s.own line c g (map data_wave values) s.history small (called takes) (data-no_commands values words)) other
    met-all false takes = item-reply s.own line c g values s.history small to_all words (not-called takes)

    when : (b : Bool) → is_off s.history ≡ b → answer line (after_all s (heard line g waves)) ≡ None
    when true off = ap (answer line) (words_off s line g waves off) ∙ answer-none line s (reply_off s.own line s.history off)
    when false on =
        ap (answer line) (words_on s line g waves on) ∙ answer-none line (record { own = s.own; history = history }) (met-all (takes_broadcast s.history) refl)

    go : (b : Bool) → is_deaf line s.history ≡ b → answer line (hearing_all line (contiguous_run 0 Controller g waves) s) ≡ None
    go true deaf = ap (answer line) (sym (run-missed line run waves s deaf)) ∙ answer-deaf line s deaf
    go false hears = ap (answer line) (sym (run-heard line run waves s hears)) ∙ when (is_off s.history) refl

-- the words of the controller alone come on the line
pub alone : (b : BusState) (line : Line) (form : Form) (gap c : ℕ) (values : List ℕ) → controller_waves form ≡ command_wave c ∷ map data_wave values
    → c < 2 ^ 16 → address_of c ≡ 31 → AreSmall values → length values ≤ 32 → AreTerminals b.stations
    → (talk_of b line form gap []).sent.items ≡ controllers_run b line form gap
unfolding talk_of exchange_of
alone b line form gap c values is small to_all words few terminals =
    let g = gap_since (last_on line b.talks) (talk_start b gap) in
    let waves = command_wave c ∷ map data_wave values in
    let fits : length (controller_waves form) ≤ 40 = omega (arith, ap (λ (ws : List ℕ). length ws) is, length-map values data_wave) in
    let each : AllByRecursion (λ s. answer line s ≡ None) (map (hearing_all line (contiguous_run 0 Controller g waves)) b.stations) =
    all-through (hearing_all line (contiguous_run 0 Controller g waves)) (λ s. s.own ≤ 30) (λ s. answer line s ≡ None) (λ s low. quiet-station line c g values s small to_all words low) b.stations terminals in
    let silent : first_reply line (all_hearing line (contiguous_run 0 Controller g (controller_waves form)) b.stations) ≡ None =
    ap (λ ws. first_reply line (all_hearing line (contiguous_run 0 Controller g ws) b.stations)) is
    ∙ ap (first_reply line) (sym (all-hear line (contiguous_run 0 Controller g waves) b.stations))
    ∙ nobody line (map (hearing_all line (contiguous_run 0 Controller g waves)) b.stations) each in
    last-turn 39 0 line (controllers line form (talk_start b gap) b.talks) [] b.stations fits silent

-- The items of a window whose command announces the data words that follow it.
use Rattle.std.proofs.Common.{◌≡◌, ℕ, zero, suc, Bool, true, false, List, [], ◌∷◌, ◌++◌, map, length, refl, ap, ◌∙◌, None}
use Rattle.std.specs.Prelude.{if◌then◌else◌}
use Rattle.std.specs.Option.{is_some}
use Rattle.mil_word.specs.declared.Line.{Line}
use Rattle.mil_word.specs.Words.{data_wave}
use Rattle.mil_terminal.specs.declared.events.Event.TheVariants.{Quiet}
use Rattle.mil_terminal.specs.Runs.{heard, AreNoCommands}
use Rattle.mil_terminal.specs.Windows.{sender_in, has_quiets, is_decided}
use Rattle.mil_terminal.specs.Verdicts.{words_due, are_due_words, has_shape, has_good_shape}
use Rattle.mil_terminal.proofs.Runs.{first_none}
use Rattle.judge_laws.proofs.Words.{AreSmall, data-read, data-no_commands}
use Rattle.judge_laws.proofs.Openings.{window}

-- words without a quiet
pub no-quiets : (n : ℕ) (line : Line) (gap : ℕ) (waves : List ℕ) → has_quiets (suc n) (heard line gap waves) ≡ false
no-quiets n line gap [] = refl
no-quiets n line gap (w ∷ ws) = no-quiets n line 20 ws

pub one-quiet : (line : Line) (gap : ℕ) (waves : List ℕ) → has_quiets (suc zero) (heard line gap waves ++ Quiet line ∷ []) ≡ true
one-quiet line gap [] = refl
one-quiet line gap (w ∷ ws) = one-quiet line 20 ws

-- no sender is called by words that are no commands
no-sender : (own c : ℕ) (line : Line) (gap : ℕ) (waves : List ℕ) → AreNoCommands 0 waves → sender_in own c (heard line gap waves ++ Quiet line ∷ []) ≡ None
no-sender own c line gap [] none = refl
no-sender own c line gap (w ∷ ws) none = rw (first_none w ws none) refl

-- a window of words alone goes on
pub goes-on : (own : ℕ) (line : Line) (c gap : ℕ) (waves : List ℕ) → is_decided own (window line c (heard line gap waves)) ≡ false
goes-on own line c gap waves = go (is_some (sender_in own c (heard line gap waves)))
  where
    go : (b : Bool) → has_quiets (if b then 2 else 1) (heard line gap waves) ≡ false
    go true = no-quiets 1 line gap waves
    go false = no-quiets 0 line gap waves

-- its first quiet decides it, where no sender is called
pub is-over : (own : ℕ) (line : Line) (c : ℕ) (waves : List ℕ) → AreNoCommands 0 waves → is_decided own (window line c (heard line 20 waves ++ Quiet line ∷ [])) ≡ true
is-over own line c waves none =
    ap (λ s. has_quiets (if is_some s then 2 else 1) (heard line 20 waves ++ Quiet line ∷ [])) (no-sender own c line 20 waves none) ∙ one-quiet line 20 waves

-- as many data words as are due
pub due-words : (line : Line) (values : List ℕ) → AreSmall values → are_due_words (length values) (heard line 20 (map data_wave values) ++ Quiet line ∷ []) ≡ true
due-words line [] small = refl
due-words line (v ∷ vs) small = rw (data-read v small.0) (due-words line vs small.1)

pub good-shape : (own : ℕ) (line : Line) (c : ℕ) (values : List ℕ) → AreSmall values → words_due c ≡ length values
    → has_good_shape own (window line c (heard line 20 (map data_wave values) ++ Quiet line ∷ [])) ≡ true
good-shape own line c values small many =
    let items = heard line 20 (map data_wave values) ++ Quiet line ∷ [] in
    ap (λ s. has_shape s (words_due c) items) (no-sender own c line 20 (map data_wave values) (data-no_commands values small))
    ∙ ap (λ n. are_due_words n items) many ∙ due-words line values small

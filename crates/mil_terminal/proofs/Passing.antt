-- Registers that stand for a history, after an event that does not concern their terminal.
use Rattle.std.proofs.Common.{◌≡◌, ℕ, ◌/◌, ◌%◌, ◌^◌, List, [], ◌∷◌, refl, sym, ap, ◌∙◌}
use Rattle.std.specs.Prelude.{Bool, true, false, ◌==◌, Option, Some, None, if◌then◌else◌, take, drop, sum}
use Rattle.std.specs.Option.{option_and_then, is_some}
use Rattle.mil_word.specs.declared.Line.{Line}
use Rattle.mil_word.specs.declared.Word.{Word}
use Rattle.mil_word.specs.Wave.{word_of, digits, number, word_in, word_with, same_halves, sync_halves, bits_in}
use Rattle.mil_word.specs.declared.Sync.{Sync}
use Rattle.mil_word.specs.declared.Sync.TheVariants.{DataSync}
use Rattle.mil_word.specs.Words.{same_line, value_if, is_command_sync, command_in}
use Rattle.mil_terminal.specs.declared.events.Event.TheVariants.{Heard, Quiet}
use Rattle.mil_terminal.specs.History.{History}
use Rattle.mil_terminal.specs.Host.{is_off}
use Rattle.mil_terminal.specs.Station.{Station, after}
use Rattle.mil_terminal.specs.Runs.{heard, met, after_all}
use Rattle.mil_terminal.specs.Replies.{reply, reply_to}
use Rattle.mil_terminal.specs.Windows.{opens, ended_by, is_listening}
use Rattle.mil_terminal.specs.declared.pending.Pending.{Pending}
use Rattle.mil_terminal.specs.declared.registers.Registers.{Registers}
use Rattle.mil_terminal.specs.StandsFor.{StandsFor}
use Rattle.mil_terminal.proofs.Hears.{hear_none, hear_silent}
use Rattle.mil_terminal.proofs.Quiets.{GoesOn, quiet_none, quiet_silent}
use Rattle.mil_terminal.proofs.Acts.{listens-none, listens-some}

none_if : {X : Type 0} (o : Option X) → is_some o ≡ false → o ≡ None
none_if None h = refl
none_if (Some x) h = cc

pub passes_word : (r : Registers) (line : Line) (wave gap : ℕ) (h : History) → opens r.own (Heard line wave gap) h ≡ false → is_listening r.own line h ≡ false
    → StandsFor r h → StandsFor r (Heard line wave gap ∷ h)
passes_word r line wave gap h other closed is = go r.window refl
  where
    go : (w : Option Pending) → r.window ≡ w → StandsFor r (Heard line wave gap ∷ h)
    go None none = hear_none r line wave gap h none (none_if _ other) is
    go (Some p) some = rw (← some) at (hear_silent r p line wave gap h some (none_if _ other) (listens-some r p line h (same_line line p.line) some refl is ∙ closed) is)

pub passes_quiet : (r : Registers) (line : Line) (h : History) → is_listening r.own line h ≡ false → StandsFor r h → GoesOn r r.own line h
passes_quiet r line h closed is = go r.window refl
  where
    go : (w : Option Pending) → r.window ≡ w → GoesOn r r.own line h
    go None none = quiet_none r r.window line h none none is
    go (Some p) some = rw (← some) at (quiet_silent r p line h some (listens-some r p line h (same_line line p.line) some refl is ∙ closed) is)

-- registers that stand for both histories listen alike in both
pub listening_stays : (r : Registers) (h later : History) → StandsFor r h → StandsFor r later → (line : Line) → is_listening r.own line later ≡ is_listening r.own line h
listening_stays r h later before now line = go r.window refl
  where
    go : (w : Option Pending) → r.window ≡ w → is_listening r.own line later ≡ is_listening r.own line h
    go None none = sym (listens-none r line later none now) ∙ listens-none r line h none before
    go (Some p) some = sym (listens-some r p line later (same_line line p.line) some refl now) ∙ listens-some r p line h (same_line line p.line) some refl before

-- half bits of which the first is low are no command
not_command : (half : ℕ) (halves : List ℕ) → (half == 1) ≡ false → option_and_then (λ (w : Word). value_if (is_command_sync w.sync) w.value) (word_in (half ∷ halves)) ≡ None
not_command half halves low = rw low (go (same_halves (take 6 (half ∷ halves)) (sync_halves DataSync)) (bits_in (drop 6 (half ∷ halves))))
  where
    odd : (b : Bool) (value : ℕ) → option_and_then (λ (w : Word). value_if (is_command_sync w.sync) w.value) (if b then Some (record { sync = DataSync; value = value }) else None) ≡ None
    odd true value = refl
    odd false value = refl

    go : (b : Bool) (bits : Option (List ℕ))
        → option_and_then (λ (w : Word). value_if (is_command_sync w.sync) w.value)
        (option_and_then (λ (sync : Sync). option_and_then (word_with sync) bits) (if b then Some DataSync else None)) ≡ None
    go false bits = refl
    go true None = refl
    go true (Some bits) = odd (sum bits % 2 == 1) (number (take 16 bits))

command_none : (wave : ℕ) → (wave / 2 ^ 39 % 2 == 1) ≡ false → command_in wave ≡ None
unfolding word_of digits
command_none wave low = not_command (wave / 2 ^ 39 % 2) (digits 39 wave) low

-- a wave that begins low opens no window
pub opens-low : (own : ℕ) (line : Line) (wave gap : ℕ) (h : History) → (wave / 2 ^ 39 % 2 == 1) ≡ false → opens own (Heard line wave gap) h ≡ false
opens-low own line wave gap h low = rw (command_none wave low) refl

-- ---- what reaches a terminal that is off is none of its history, and else it is

pub word_off : (s : Station) (line : Line) (wave gap : ℕ) → is_off s.history ≡ true → after s (Heard line wave gap) ≡ s
word_off s line wave gap off = rw off refl

pub word_on : (s : Station) (line : Line) (wave gap : ℕ) → is_off s.history ≡ false → after s (Heard line wave gap) ≡ record { own = s.own; history = Heard line wave gap ∷ s.history }
word_on s line wave gap on = rw on refl

pub words_off : (s : Station) (line : Line) (gap : ℕ) (waves : List ℕ) → is_off s.history ≡ true → after_all s (heard line gap waves) ≡ s
words_off s line gap [] off = refl
words_off s line gap (w ∷ ws) off = ap (λ (t : Station). after_all t (heard line 20 ws)) (word_off s line w gap off) ∙ words_off s line 20 ws off

pub words_on : (s : Station) (line : Line) (gap : ℕ) (waves : List ℕ) → is_off s.history ≡ false → after_all s (heard line gap waves) ≡ record { own = s.own; history = met (heard line gap waves) s.history }
words_on s line gap [] on = refl
words_on s line gap (w ∷ ws) on =
    ap (λ (t : Station). after_all t (heard line 20 ws)) (word_on s line w gap on) ∙ words_on (record { own = s.own; history = Heard line w gap ∷ s.history }) line 20 ws on

pub quiet_off : (s : Station) (line : Line) → is_off s.history ≡ true → after s (Quiet line) ≡ s
quiet_off s line off = rw off refl

pub quiet_on : (s : Station) (line : Line) → is_off s.history ≡ false → after s (Quiet line) ≡ record { own = s.own; history = Quiet line ∷ s.history }
quiet_on s line on = rw on refl

-- a terminal that is off replies nothing
pub reply_off : (own : ℕ) (line : Line) (h : History) → is_off h ≡ true → reply own line h ≡ None
unfolding reply
reply_off own line h off = rw off refl

pub reply_on : (own : ℕ) (line : Line) (h : History) → is_off h ≡ false → reply own line h ≡ reply_to own (ended_by own (Quiet line) h) (Quiet line ∷ h)
unfolding reply
reply_on own line h on = rw on refl

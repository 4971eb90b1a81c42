-- What the host has set, after one more action.
use Rattle.std.proofs.Common.{◌≡◌, ℕ, ◌<◌, ◌≤◌, ◌∷◌, refl, ap, ◌∙◌}
use Rattle.std.specs.Prelude.{Bool, true, false, not, ◌&&◌, ◌||◌, Some, None, if◌then◌else◌, unwrap_or}
use Rattle.mil_word.specs.declared.Line.{Line}
use Rattle.mil_word.specs.declared.Line.TheVariants.{A, B}
use Rattle.mil_word.specs.Words.{same_line}
use Rattle.mil_host.specs.Values.{PutUp, Marked, ModeMarked, Ramped}
use Rattle.mil_host.specs.declared.actions.Action.TheVariants.{Transmit, Busy, Service, Subsystem, Fault, Control, Vector, SelfTest, Illegal, Legal, Response, Deaf, Mute}
use Rattle.mil_host.specs.declared.actions.Action.TheVariants.{IllegalMode, LegalMode, Broadcast, Power, BitWord, ServiceOnce, Gap, Ramp}
use Rattle.mil_terminal.specs.declared.events.Event.TheVariants.{Host}
use Rattle.mil_terminal.specs.History.{History}
use Rattle.mil_terminal.specs.Host.{is_mark, is_mode_mark, is_marked_illegal, is_mode_marked, is_deaf, is_mute}
use Rattle.mil_terminal.specs.Registers.{vector}
use Rattle.mil_terminal.specs.Marking.{is_set, is_mode_set}
use Rattle.mil_terminal.specs.ByLines.{on_line, with_line}
use Rattle.mil_terminal.specs.declared.by_lines.ByLine.{ByLine}
use Rattle.mil_terminal.specs.declared.marks.Marks.{Marks}
use Rattle.mil_terminal.specs.declared.host.Settings.{Settings}
use Rattle.mil_terminal.specs.StandsFor.{AreSettings}

-- a condition of each line, at first
pub on_none : (c : ByLine) → c ≡ record { a = false; b = false } → (line : Line) → on_line c line ≡ false
on_none c is A = ap (λ (x : ByLine). x.a) is
on_none c is B = ap (λ (x : ByLine). x.b) is

-- a condition of each line, after one more action
told_on : (c : ByLine) (line l : Line) (on was : Bool) → on_line c l ≡ was → on_line (with_line c line on) l ≡ unwrap_or (if same_line line l then Some on else None) was
told_on c A A on was is = refl
told_on c A B on was is = is
told_on c B A on was is = is
told_on c B B on was is = refl

-- whether service is requested, where it was asked for without an end
on_and : (on : Bool) → on ≡ (on && not false)
on_and true = refl
on_and false = refl

marked : (on b old was : Bool) → old ≡ was → (if b then on else old) ≡ unwrap_or (if b then Some on else None) was
marked on true old was same = refl
marked on false old was same = same

module _ (own : ℕ) (s : Settings) (h : History) (is : AreSettings own s h) where
  pub set_transmit : (put : PutUp) → AreSettings own s (Host (Transmit put) ∷ h)
  unfolding vector
  set_transmit put = record { busy = is.busy; service = is.service; once = is.once; subsystem = is.subsystem; fault = is.fault; control = is.control; vector = is.vector; self_test = is.self_test; response = is.response; by_gap = is.by_gap; bit = is.bit; broadcast = is.broadcast; off = is.off; marks = is.marks; modes = is.modes; deaf = is.deaf; mute = is.mute }

  pub set_ramp : (r : Ramped) → AreSettings own s (Host (Ramp r) ∷ h)
  unfolding vector
  set_ramp r = record { busy = is.busy; service = is.service; once = is.once; subsystem = is.subsystem; fault = is.fault; control = is.control; vector = is.vector; self_test = is.self_test; response = is.response; by_gap = is.by_gap; bit = is.bit; broadcast = is.broadcast; off = is.off; marks = is.marks; modes = is.modes; deaf = is.deaf; mute = is.mute }

  pub set_busy : (on : Bool) → AreSettings own (record s { busy = on }) (Host (Busy on) ∷ h)
  unfolding vector
  set_busy on = record { busy = refl; service = is.service; once = is.once; subsystem = is.subsystem; fault = is.fault; control = is.control; vector = is.vector; self_test = is.self_test; response = is.response; by_gap = is.by_gap; bit = is.bit; broadcast = is.broadcast; off = is.off; marks = is.marks; modes = is.modes; deaf = is.deaf; mute = is.mute }

  pub set_subsystem : (on : Bool) → AreSettings own (record s { subsystem = on }) (Host (Subsystem on) ∷ h)
  unfolding vector
  set_subsystem on = record { busy = is.busy; service = is.service; once = is.once; subsystem = refl; fault = is.fault; control = is.control; vector = is.vector; self_test = is.self_test; response = is.response; by_gap = is.by_gap; bit = is.bit; broadcast = is.broadcast; off = is.off; marks = is.marks; modes = is.modes; deaf = is.deaf; mute = is.mute }

  pub set_fault : (on : Bool) → AreSettings own (record s { fault = on }) (Host (Fault on) ∷ h)
  unfolding vector
  set_fault on = record { busy = is.busy; service = is.service; once = is.once; subsystem = is.subsystem; fault = refl; control = is.control; vector = is.vector; self_test = is.self_test; response = is.response; by_gap = is.by_gap; bit = is.bit; broadcast = is.broadcast; off = is.off; marks = is.marks; modes = is.modes; deaf = is.deaf; mute = is.mute }

  pub set_control : (on : Bool) → AreSettings own (record s { control = on }) (Host (Control on) ∷ h)
  unfolding vector
  set_control on = record { busy = is.busy; service = is.service; once = is.once; subsystem = is.subsystem; fault = is.fault; control = refl; vector = is.vector; self_test = is.self_test; response = is.response; by_gap = is.by_gap; bit = is.bit; broadcast = is.broadcast; off = is.off; marks = is.marks; modes = is.modes; deaf = is.deaf; mute = is.mute }

  pub set_broadcast : (on : Bool) → AreSettings own (record s { broadcast = on }) (Host (Broadcast on) ∷ h)
  unfolding vector
  set_broadcast on = record { busy = is.busy; service = is.service; once = is.once; subsystem = is.subsystem; fault = is.fault; control = is.control; vector = is.vector; self_test = is.self_test; response = is.response; by_gap = is.by_gap; bit = is.bit; broadcast = refl; off = is.off; marks = is.marks; modes = is.modes; deaf = is.deaf; mute = is.mute }

  pub set_service : (on : Bool) → AreSettings own (record s { service = on; once = false }) (Host (Service on) ∷ h)
  unfolding vector
  set_service on = record { busy = is.busy; service = on_and on; once = refl; subsystem = is.subsystem; fault = is.fault; control = is.control; vector = is.vector; self_test = is.self_test; response = is.response; by_gap = is.by_gap; bit = is.bit; broadcast = is.broadcast; off = is.off; marks = is.marks; modes = is.modes; deaf = is.deaf; mute = is.mute }

  pub set_once : AreSettings own (record s { service = true; once = true }) (Host ServiceOnce ∷ h)
  unfolding vector
  set_once = record { busy = is.busy; service = refl; once = refl; subsystem = is.subsystem; fault = is.fault; control = is.control; vector = is.vector; self_test = is.self_test; response = is.response; by_gap = is.by_gap; bit = is.bit; broadcast = is.broadcast; off = is.off; marks = is.marks; modes = is.modes; deaf = is.deaf; mute = is.mute }

  pub set_vector : (word : ℕ) → AreSettings own (record s { vector = word }) (Host (Vector word) ∷ h)
  unfolding vector
  set_vector word = record { busy = is.busy; service = is.service; once = is.once; subsystem = is.subsystem; fault = is.fault; control = is.control; vector = refl; self_test = is.self_test; response = is.response; by_gap = is.by_gap; bit = is.bit; broadcast = is.broadcast; off = is.off; marks = is.marks; modes = is.modes; deaf = is.deaf; mute = is.mute }

  pub set_self_test : (word : ℕ) → AreSettings own (record s { self_test = word }) (Host (SelfTest word) ∷ h)
  unfolding vector
  set_self_test word = record { busy = is.busy; service = is.service; once = is.once; subsystem = is.subsystem; fault = is.fault; control = is.control; vector = is.vector; self_test = refl; response = is.response; by_gap = is.by_gap; bit = is.bit; broadcast = is.broadcast; off = is.off; marks = is.marks; modes = is.modes; deaf = is.deaf; mute = is.mute }

  pub set_bit : (word : ℕ) → AreSettings own (record s { bit = word }) (Host (BitWord word) ∷ h)
  unfolding vector
  set_bit word = record { busy = is.busy; service = is.service; once = is.once; subsystem = is.subsystem; fault = is.fault; control = is.control; vector = is.vector; self_test = is.self_test; response = is.response; by_gap = is.by_gap; bit = refl; broadcast = is.broadcast; off = is.off; marks = is.marks; modes = is.modes; deaf = is.deaf; mute = is.mute }

  pub set_power : (on : Bool) → AreSettings own (record s { off = not on }) (Host (Power on) ∷ h)
  unfolding vector
  set_power on = record { busy = is.busy; service = is.service; once = is.once; subsystem = is.subsystem; fault = is.fault; control = is.control; vector = is.vector; self_test = is.self_test; response = is.response; by_gap = is.by_gap; bit = is.bit; broadcast = is.broadcast; off = refl; marks = is.marks; modes = is.modes; deaf = is.deaf; mute = is.mute }

  pub set_response : (ticks : ℕ) → AreSettings own (record s { response = ticks; by_gap = false }) (Host (Response ticks) ∷ h)
  unfolding vector
  set_response ticks = record { busy = is.busy; service = is.service; once = is.once; subsystem = is.subsystem; fault = is.fault; control = is.control; vector = is.vector; self_test = is.self_test; response = refl; by_gap = refl; bit = is.bit; broadcast = is.broadcast; off = is.off; marks = is.marks; modes = is.modes; deaf = is.deaf; mute = is.mute }

  pub set_gap : (ticks : ℕ) → AreSettings own (record s { response = ticks; by_gap = true }) (Host (Gap ticks) ∷ h)
  unfolding vector
  set_gap ticks = record { busy = is.busy; service = is.service; once = is.once; subsystem = is.subsystem; fault = is.fault; control = is.control; vector = is.vector; self_test = is.self_test; response = refl; by_gap = refl; bit = is.bit; broadcast = is.broadcast; off = is.off; marks = is.marks; modes = is.modes; deaf = is.deaf; mute = is.mute }

  pub set_illegal : (mark : Marked) (marks : Marks)
      → ((t : Bool) (sub n : ℕ) → sub < 32 → 1 ≤ n → n ≤ 32 → is_set marks t sub n ≡ (if is_mark t sub n mark then true else is_set s.marks t sub n))
      → ((t : Bool) (code : ℕ) → code < 32 → is_mode_set marks t code ≡ is_mode_set s.marks t code)
      → AreSettings own (record s { marks = marks }) (Host (Illegal mark) ∷ h)
  unfolding vector
  set_illegal mark marks set same =
      record { busy = is.busy; service = is.service; once = is.once; subsystem = is.subsystem; fault = is.fault; control = is.control; vector = is.vector; self_test = is.self_test; response = is.response; by_gap = is.by_gap; bit = is.bit; broadcast = is.broadcast; off = is.off; marks = λ t sub n ge lt n_ge n_le. set t sub n lt n_ge n_le ∙ marked true (is_mark t sub n mark) (is_set s.marks t sub n) (is_marked_illegal t sub n h) (is.marks t sub n ge lt n_ge n_le); modes = λ t code lt. same t code lt ∙ is.modes t code lt; deaf = is.deaf; mute = is.mute }

  pub set_illegal_mode : (mark : ModeMarked) (marks : Marks)
      → ((t : Bool) (code : ℕ) → code < 32 → is_mode_set marks t code ≡ (if is_mode_mark t code mark then true else is_mode_set s.marks t code))
      → ((t : Bool) (sub n : ℕ) → 1 ≤ sub → sub < 32 → 1 ≤ n → n ≤ 32 → is_set marks t sub n ≡ is_set s.marks t sub n)
      → AreSettings own (record s { marks = marks }) (Host (IllegalMode mark) ∷ h)
  unfolding vector
  set_illegal_mode mark marks set same =
      record { busy = is.busy; service = is.service; once = is.once; subsystem = is.subsystem; fault = is.fault; control = is.control; vector = is.vector; self_test = is.self_test; response = is.response; by_gap = is.by_gap; bit = is.bit; broadcast = is.broadcast; off = is.off; marks = λ t sub n ge lt n_ge n_le. same t sub n ge lt n_ge n_le ∙ is.marks t sub n ge lt n_ge n_le; modes = λ t code lt. set t code lt ∙ marked true (is_mode_mark t code mark) (is_mode_set s.marks t code) (is_mode_marked t code h) (is.modes t code lt); deaf = is.deaf; mute = is.mute }

  pub set_legal : (mark : Marked) (marks : Marks)
      → ((t : Bool) (sub n : ℕ) → sub < 32 → 1 ≤ n → n ≤ 32 → is_set marks t sub n ≡ (if is_mark t sub n mark then false else is_set s.marks t sub n))
      → ((t : Bool) (code : ℕ) → code < 32 → is_mode_set marks t code ≡ is_mode_set s.marks t code)
      → AreSettings own (record s { marks = marks }) (Host (Legal mark) ∷ h)
  unfolding vector
  set_legal mark marks set same =
      record { busy = is.busy; service = is.service; once = is.once; subsystem = is.subsystem; fault = is.fault; control = is.control; vector = is.vector; self_test = is.self_test; response = is.response; by_gap = is.by_gap; bit = is.bit; broadcast = is.broadcast; off = is.off; marks = λ t sub n ge lt n_ge n_le. set t sub n lt n_ge n_le ∙ marked false (is_mark t sub n mark) (is_set s.marks t sub n) (is_marked_illegal t sub n h) (is.marks t sub n ge lt n_ge n_le); modes = λ t code lt. same t code lt ∙ is.modes t code lt; deaf = is.deaf; mute = is.mute }

  pub set_legal_mode : (mark : ModeMarked) (marks : Marks)
      → ((t : Bool) (code : ℕ) → code < 32 → is_mode_set marks t code ≡ (if is_mode_mark t code mark then false else is_mode_set s.marks t code))
      → ((t : Bool) (sub n : ℕ) → 1 ≤ sub → sub < 32 → 1 ≤ n → n ≤ 32 → is_set marks t sub n ≡ is_set s.marks t sub n)
      → AreSettings own (record s { marks = marks }) (Host (LegalMode mark) ∷ h)
  unfolding vector
  set_legal_mode mark marks set same =
      record { busy = is.busy; service = is.service; once = is.once; subsystem = is.subsystem; fault = is.fault; control = is.control; vector = is.vector; self_test = is.self_test; response = is.response; by_gap = is.by_gap; bit = is.bit; broadcast = is.broadcast; off = is.off; marks = λ t sub n ge lt n_ge n_le. same t sub n ge lt n_ge n_le ∙ is.marks t sub n ge lt n_ge n_le; modes = λ t code lt. set t code lt ∙ marked false (is_mode_mark t code mark) (is_mode_set s.marks t code) (is_mode_marked t code h) (is.modes t code lt); deaf = is.deaf; mute = is.mute }

  pub set_deaf : (line : Line) (on : Bool) → AreSettings own (record s { deaf = with_line s.deaf line on }) (Host (Deaf line on) ∷ h)
  unfolding vector
  set_deaf line on =
      record { busy = is.busy; service = is.service; once = is.once; subsystem = is.subsystem; fault = is.fault; control = is.control; vector = is.vector; self_test = is.self_test; response = is.response; by_gap = is.by_gap; bit = is.bit; broadcast = is.broadcast; off = is.off; marks = is.marks; modes = is.modes; deaf = λ l. told_on s.deaf line l on (is_deaf l h) (is.deaf l); mute = is.mute }

  pub set_mute : (line : Line) (on : Bool) → AreSettings own (record s { mute = with_line s.mute line on }) (Host (Mute line on) ∷ h)
  unfolding vector
  set_mute line on =
      record { busy = is.busy; service = is.service; once = is.once; subsystem = is.subsystem; fault = is.fault; control = is.control; vector = is.vector; self_test = is.self_test; response = is.response; by_gap = is.by_gap; bit = is.bit; broadcast = is.broadcast; off = is.off; marks = is.marks; modes = is.modes; deaf = is.deaf; mute = λ l. told_on s.mute line l on (is_mute l h) (is.mute l) }

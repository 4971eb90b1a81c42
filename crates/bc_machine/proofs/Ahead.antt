-- The message that comes next is the one that the next step makes; and when it starts.
use Rattle.std.proofs.Common.{◌≡◌, ℕ, ◌+◌, ◌<◌, ◌^◌, Bool, true, false, cond, max, List, ◌∷◌, Option, Some, None, length, refl, sym, ap, ap₂, subst, ◌∙◌, arith}
use Rattle.std.specs.Prelude.{slice_get, IfSome}
use Rattle.std.specs.Option.{option_map}
use Rattle.std.proofs.lemmas.Bool.{false_from_ne_true}
use Rattle.mil_word.specs.declared.Line.{Line}
use Rattle.mil_message.specs.declared.messages.Message.{Message}
use Rattle.mil_message.specs.declared.forms.Form.{Form}
use Rattle.mil_message.specs.World.{other_line}
use Rattle.mil_bus.specs.declared.talks.Talk.{Talk}
use Rattle.mil_bus.specs.Exchange.{exchanged, talk_of, next_start, talk_start, now_of}
use Rattle.frame_code.specs.declared.Op.{Op}
use Rattle.frame_code.specs.declared.Op.TheVariants.{Halt, Send, Alt, SetGap, Loop, Again, Leave, Jump, Test, JumpFalse, Call, Return, Begin, Pace}
use Rattle.frame_code.specs.Table.{act, sends}
use Rattle.controller_host.specs.Values.{InsertionValue}
use Rattle.bc_machine.specs.declared.next_message.NextMessage.{NextMessage}
use Rattle.bc_machine.specs.declared.upcoming.Upcoming.{Upcoming}
use Rattle.bc_machine.specs.Hosting.{next_insertion, sent_form}
use Rattle.bc_machine.specs.Controller.{ready, own_talk, insertion_talk}
use Rattle.bc_machine.specs.Running.{MachineState, setting, bus_run, most_inserted, waiting, stops_at, world_in, frames_point}
use Rattle.bc_machine.specs.Moves.{line_of}
use Rattle.bc_machine.specs.MayStep.{IsAble}
use Rattle.bc_machine.specs.Coming.{IsAbout, IsComing, IsStill, bus_before}
use Rattle.bc_machine.specs.NextMessage.{talk_of_own, talk_of_operation, talk_behind, coming_talk, in_advance, IsMade, Makes}
use Rattle.bc_machine.proofs.Acts.{ready_talks, ready_start, ready_least, ready_clock}
use Rattle.bc_machine.proofs.Coming.{send_comes, alt_comes, still, halt_still}
use Rattle.bc_machine.proofs.Rows.{waits_stop, waits_none, to_inserted}

-- ---- what comes next is what the next step makes

module _ (m : MachineState) (able : IsAble m) where
  -- where an upcoming message is known, its talk is made
  made_by : (u : Upcoming) → stops_at (slice_get m.code.operations m.at.place) ≡ true → IsComing m u → IsMade m u.talk
  made_by u stops h = record { stops = stops; talks = h.talks; number = h.number }

  own_low : now_of (bus_before m None) < 2 ^ 60
  own_low = omega (arith, ready_clock m.placed (length m.made + 1) m.point.state, able.clock)

  -- a message of the script as it is about to be sent
  abbrev own_about : Bool → Line × Message → Upcoming
  own_about alternates x = record {
    bus = bus_before m None;
    gap = m.point.gap;
    talk = own_talk (setting m) (line_of alternates m.at.line x.0) x.1 m.point.gap (bus_run m);
    inserted = false;
  }

  own_is : (alternates : Bool) (x : Line × Message) → IsAbout m (line_of alternates m.at.line x.0) x.1 (own_about alternates x)
  own_is alternates x = record { bus = refl; gap = refl; talk = refl; inserted = refl }

  makes_send : (i : ℕ) (found : Option (Line × Message)) → slice_get m.code.messages i ≡ found → next_insertion m.placed (most_inserted m.code) m.made ≡ None
      → slice_get m.code.operations m.at.place ≡ Some (Send i) → Makes m (talk_of_own m false found)
  makes_send i None there next e = absurd (able.going (ap (λ v. act (world_in m) v m.code m.at (frames_point m)) e ∙ ap (λ v. sends (world_in m) v (λ l. l) m.at (frames_point m)) there))
  makes_send i (Some x) there next e =
      made_by (own_about false x) (ap stops_at e) (send_comes m able.counted i (own_about false x) able next e (subst (λ v. IfSome v (λ y. IsAbout m (line_of false m.at.line y.0) y.1 (own_about false x))) (sym there) (own_is false x)))

  makes_alt : (i : ℕ) (found : Option (Line × Message)) → slice_get m.code.messages i ≡ found → next_insertion m.placed (most_inserted m.code) m.made ≡ None
      → slice_get m.code.operations m.at.place ≡ Some (Alt i) → Makes m (talk_of_own m true found)
  makes_alt i None there next e = absurd (able.going (ap (λ v. act (world_in m) v m.code m.at (frames_point m)) e ∙ ap (λ v. sends (world_in m) v (λ l. other_line m.at.line) m.at (frames_point m)) there))
  makes_alt i (Some x) there next e =
      made_by (own_about true x) (ap stops_at e) (alt_comes m able.counted i (own_about true x) able next e (subst (λ v. IfSome v (λ y. IsAbout m (line_of true m.at.line y.0) y.1 (own_about true x))) (sym there) (own_is true x)))

  quiet : (o : Op) → slice_get m.code.operations m.at.place ≡ Some o → (stops_at (Some o) ≡ true → ⊥) → IsStill m
  quiet o e clear = still m able.counted o e able.going clear

  never : false ≡ true → ⊥
  never h = cc

  -- where none waits
  makes_own : (o : Option Op) → slice_get m.code.operations m.at.place ≡ o → waiting m ≡ None → Makes m (talk_of_operation m o)
  makes_own None e none = absurd (able.going (ap (λ v. act (world_in m) v m.code m.at (frames_point m)) e))
  makes_own (Some Halt) e none = halt_still m able.counted e (sym (waits_stop m Halt e refl) ∙ none)
  makes_own (Some (Send i)) e none = makes_send i (slice_get m.code.messages i) refl (sym (waits_stop m (Send i) e refl) ∙ none) e
  makes_own (Some (Alt i)) e none = makes_alt i (slice_get m.code.messages i) refl (sym (waits_stop m (Alt i) e refl) ∙ none) e
  makes_own (Some (SetGap t)) e none = quiet (SetGap t) e never
  makes_own (Some (Loop n)) e none = quiet (Loop n) e never
  makes_own (Some (Again i)) e none = quiet (Again i) e never
  makes_own (Some (Leave i)) e none = quiet (Leave i) e never
  makes_own (Some (Jump i)) e none = quiet (Jump i) e never
  makes_own (Some (Test k)) e none = quiet (Test k) e never
  makes_own (Some (JumpFalse i)) e none = quiet (JumpFalse i) e never
  makes_own (Some (Call r)) e none = quiet (Call r) e never
  makes_own (Some Return) e none = quiet Return e never
  makes_own (Some Begin) e none = quiet Begin e never
  makes_own (Some (Pace h)) e none = quiet (Pace h) e never

  -- where one waits, the controller stands at an operation that stops
  waits_at_stop : (b : Bool) (x : InsertionValue) → cond b (next_insertion m.placed (most_inserted m.code) m.made) None ≡ Some x → b ≡ true
  waits_at_stop true x e = refl
  waits_at_stop false x e = absurd cc

  inserted_made : (x : InsertionValue) → waiting m ≡ Some x → IsMade m (insertion_talk (setting m) m.point.gap x (bus_run m))
  unfolding talk_of exchanged
  inserted_made x e =
      let is = to_inserted m x e in
      record {
        stops = waits_at_stop (stops_at (slice_get m.code.operations m.at.place)) x e;
        talks = ap (λ (z : MachineState). z.point.state.talks) is ∙ ap (λ ts. insertion_talk (setting m) m.point.gap x (bus_run m) ∷ ts) (ready_talks m.placed (length m.made + 1) m.point.state);
        number = ap (λ (z : MachineState). z.point.number) is;
      }

  makes_with : (o : Option InsertionValue) → waiting m ≡ o → Makes m (talk_behind m o)
  makes_with (Some x) e = inserted_made x e
  makes_with None e = makes_own (slice_get m.code.operations m.at.place) refl e

  pub makes : Makes m (coming_talk m)
  unfolding coming_talk
  makes = makes_with (waiting m) refl

-- ---- when it starts, and as what it is sent: no action moves a bus's time

abbrev pub first_free : MachineState → ℕ
first_free m = next_start m.point.state.start m.point.state.talks m.point.gap

free_is : (m : MachineState) (number : ℕ) → next_start (ready m.placed number m.point.state).start (ready m.placed number m.point.state).talks m.point.gap ≡ first_free m
free_is m number = ap₂ (λ (s : ℕ) (ts : List Talk). next_start s ts m.point.gap) (ready_start m.placed number m.point.state) (ready_talks m.placed number m.point.state)

-- what is told of an inserted message
pub told_inserted : (m : MachineState) (x : InsertionValue) (start : ℕ) (message : Form) → start ≡ max (first_free m) x.tick → message ≡ x.message
    → record { start = start; message = message } ≡ in_advance (insertion_talk (setting m) m.point.gap x (bus_run m))
unfolding talk_of
told_inserted m x start message at words =
    ap₂ (λ (t : ℕ) (f : Form). record { start = t; message = f }) (at ∙ sym (ap (λ t. max t x.tick) (free_is m (length m.made + 1)))) words

-- what is told of a message of the script
pub told_own : (m : MachineState) (line : Line) (form : Form) (start : ℕ) (message : Form) → start ≡ talk_start m.point.state m.point.gap → message ≡ sent_form m.placed m.made form
    → record { start = start; message = message } ≡ in_advance (own_talk (setting m) line form m.point.gap (bus_run m))
unfolding talk_of
told_own m line form start message at words =
    ap₂ (λ (t : ℕ) (f : Form). record { start = t; message = f }) (at ∙ sym (ap₂ max (free_is m (length m.made + 1)) (ready_least m.placed (length m.made + 1) m.point.state))) words

pub told_of_script : (m : MachineState) (alternates : Bool) (i : ℕ) (x : Line × Message) (start : ℕ) (message : Form) → slice_get m.code.messages i ≡ Some x → start ≡ talk_start m.point.state m.point.gap → message ≡ sent_form m.placed m.made x.1
    → Some (record { start = start; message = message }) ≡ option_map in_advance (talk_of_own m alternates (slice_get m.code.messages i))
told_of_script m alternates i x start message there at words =
    ap Some (told_own m (line_of alternates m.at.line x.0) x.1 start message at words) ∙ sym (ap (λ v. option_map in_advance (talk_of_own m alternates v)) there)

-- ---- by the operation at its place

abbrev pub inserted_in_advance : MachineState → InsertionValue → NextMessage
inserted_in_advance m x = in_advance (insertion_talk (setting m) m.point.gap x (bus_run m))

-- what waits goes first
pub first_waits : (m : MachineState) (o : Op) (next : NextMessage) (n : Option InsertionValue) → slice_get m.code.operations m.at.place ≡ Some o → stops_at (Some o) ≡ true → next_insertion m.placed (most_inserted m.code) m.made ≡ n
    → Some next ≡ option_map (inserted_in_advance m) n → Some next ≡ option_map in_advance (coming_talk m)
unfolding coming_talk
first_waits m o next None e stops is h = absurd cc
first_waits m o next (Some x) e stops is h = h ∙ sym (ap (λ v. option_map in_advance (talk_behind m v)) (waits_stop m o e stops ∙ is))

none_waits : (m : MachineState) (n : Option InsertionValue) → None ≡ option_map (inserted_in_advance m) n → n ≡ None
none_waits m None h = refl
none_waits m (Some x) h = absurd cc

-- where none waits, the operation's own
pub own_comes : (m : MachineState) (o : Op) → slice_get m.code.operations m.at.place ≡ Some o → waiting m ≡ None → coming_talk m ≡ talk_of_operation m (Some o)
unfolding coming_talk
own_comes m o e none = ap (talk_behind m) none ∙ ap (talk_of_operation m) e

pub script_comes : (m : MachineState) (alternates : Bool) (i : ℕ) (next : NextMessage) → slice_get m.code.operations m.at.place ≡ Some (cond alternates (Alt i) (Send i))
    → None ≡ option_map (inserted_in_advance m) (next_insertion m.placed (most_inserted m.code) m.made)
    → Some next ≡ option_map in_advance (talk_of_own m alternates (slice_get m.code.messages i)) → Some next ≡ option_map in_advance (coming_talk m)
script_comes m true i next e none h = h ∙ sym (ap (option_map in_advance) (own_comes m (Alt i) e (waits_stop m (Alt i) e refl ∙ none_waits m _ none)))
script_comes m false i next e none h = h ∙ sym (ap (option_map in_advance) (own_comes m (Send i) e (waits_stop m (Send i) e refl ∙ none_waits m _ none)))

pub waiting_comes : (m : MachineState) (alternates : Bool) (i : ℕ) (next : NextMessage) → slice_get m.code.operations m.at.place ≡ Some (cond alternates (Alt i) (Send i))
    → Some next ≡ option_map (inserted_in_advance m) (next_insertion m.placed (most_inserted m.code) m.made) → Some next ≡ option_map in_advance (coming_talk m)
waiting_comes m true i next e h = first_waits m (Alt i) next _ e refl refl h
waiting_comes m false i next e h = first_waits m (Send i) next _ e refl refl h

-- at the end of the program
pub halt_comes : (m : MachineState) (v : Option NextMessage) → slice_get m.code.operations m.at.place ≡ Some Halt
    → v ≡ option_map (inserted_in_advance m) (next_insertion m.placed (most_inserted m.code) m.made) → v ≡ option_map in_advance (coming_talk m)
halt_comes m None e h = sym (ap (option_map in_advance) (own_comes m Halt e (waits_stop m Halt e refl ∙ none_waits m _ h)))
halt_comes m (Some next) e h = first_waits m Halt next _ e refl refl h

-- no other operation sends
none_of_operation : (m : MachineState) (o : Op) → (stops_at (Some o) ≡ true → ⊥) → talk_of_operation m (Some o) ≡ None
none_of_operation m Halt clear = refl
none_of_operation m (Send i) clear = absurd (clear refl)
none_of_operation m (Alt i) clear = absurd (clear refl)
none_of_operation m (SetGap t) clear = refl
none_of_operation m (Loop n) clear = refl
none_of_operation m (Again i) clear = refl
none_of_operation m (Leave i) clear = refl
none_of_operation m (Jump i) clear = refl
none_of_operation m (Test k) clear = refl
none_of_operation m (JumpFalse i) clear = refl
none_of_operation m (Call r) clear = refl
none_of_operation m Return clear = refl
none_of_operation m Begin clear = refl
none_of_operation m (Pace h) clear = refl

pub quiet_comes : (m : MachineState) (o : Op) → slice_get m.code.operations m.at.place ≡ Some o → (stops_at (Some o) ≡ true → ⊥) → None ≡ option_map in_advance (coming_talk m)
quiet_comes m o e clear =
    sym (ap (option_map in_advance) (own_comes m o e (waits_none m o e (false_from_ne_true (stops_at (Some o)) clear)) ∙ none_of_operation m o clear))

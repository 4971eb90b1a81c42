-- A draft of a job: what its lines say, and one more line.
use Rattle.std.specs.Prelude.{◌≡◌, ◌+◌, true, false, List, [], ◌∷◌, ◌++◌, map, Result, Ok, Err}
use Rattle.std.specs.Option.{option_to_list}
use Rattle.mil_host.specs.Reading.{in_words}
use Rattle.job_file.specs.Lines.{Said, blank, script, channel, start, terminal, action, control, fault, faults}
use Rattle.job_file.specs.Lines.{series, timed_action, timed_control, timed_fault}
use Rattle.job_file.specs.TimedLines.{with_when, with_fault}
use Rattle.job_file.specs.Whens.{turns_of}
use Rattle.job_file.specs.declared.timed.TimedAction.{TimedAction}
use Rattle.job_moments.specs.declared.moments.Moment.{Moment}
use Rattle.job_moments.specs.declared.occasions.Occasion.{Occasion}
use Rattle.job_moments.specs.declared.occasions.Occasion.TheVariants.{Numbers}
use Rattle.mil_line.specs.declared.faults.Fault.{Fault}
use Rattle.job_file.specs.declared.spans.Span.{Span}
use Rattle.job_file.specs.Spans.{span_count, numbers_of, placed_by}
use Rattle.job_file.specs.HeadLines.{Head, placing, asking, placing_then, asking_then, turn_at, may_stand}
use Rattle.bc_machine.specs.declared.placed.Placed.{Placed}
use Rattle.bc_machine.specs.declared.placed.HostAction.{HostAction}
use Rattle.controller_text.specs.Reading.{control_in}
use Rattle.job_file.specs.declared.drafts.Draft.{Draft}
use Rattle.job_file.specs.declared.error.Refusal.{Refusal}
use Rattle.job_file.specs.declared.error.Refusal.TheVariants as refusal

abbrev pub shown : Draft → Head
shown d = record {
  channels = option_to_list d.channel;
  starts = option_to_list d.start;
  addresses = d.addresses.items;
  actions = d.actions;
  plan = d.plan;
  from_series = d.from_series;
  timed = d.timed;
}

abbrev pub with_action : Placed → Head → Head
with_action placed h = record h { actions = h.actions ++ placed ∷ [] }

-- one fault more, and when it is due
abbrev pub with_occasion : Occasion → Fault → Head → Head
with_occasion occasion f h = record h { timed = with_fault occasion f h.timed }

-- a fault planned for each of these messages
abbrev pub with_each : Span → Fault → Head → Head
with_each span f h = record h { plan = h.plan ++ map (λ number. (number, f)) (numbers_of span) }

-- one action more at a moment
abbrev pub with_when_at : Moment → HostAction → Head → Head
with_when_at moment act h = record h { timed = with_when moment act h.timed }

abbrev pub with_whens : List TimedAction → Head → Head
with_whens whens h = record h { timed = record h.timed { whens = h.timed.whens ++ whens } }

abbrev pub in_time : Head → Head
in_time h = record h { timed = record h.timed { is_timed = true } }

abbrev pub with_line : Said → Head → Head
with_line blank h = h
with_line script h = h
with_line (channel n) h = record h { channels = h.channels ++ n ∷ [] }
with_line (start n) h = record h { starts = h.starts ++ n ∷ [] }
with_line (terminal n) h = record h { addresses = h.addresses ++ n ∷ [] }
with_line (action number address text) h = record h
    { actions = h.actions ++ option_to_list (placing number address (in_words text)) }
with_line (control number text) h = record h { actions = h.actions ++ option_to_list (asking number (control_in text)) }
with_line (fault number f) h =
    with_occasion (Numbers (turn_at number)) f (record h { plan = h.plan ++ (number, f) ∷ [] })
with_line (faults span f) h = with_occasion (Numbers (turns_of span)) f (with_each span f h)
with_line (timed_action moment address text) h =
    with_whens (option_to_list (placing_then moment address (in_words text))) h
with_line (timed_control moment text) h = with_whens (option_to_list (asking_then moment (control_in text))) h
with_line (timed_fault occasion f) h = in_time (with_occasion occasion f h)
with_line (series s) h = record h {
  actions = h.actions ++ placed_by s;
  from_series = h.from_series + span_count s.span;
}

-- the line may stand there, and was taken in; or it may not, but for want of memory
abbrev pub Takes : Said → Head → Head → Result (Unit {0}) Refusal → Type 0
Takes line old new (Ok u) = (may_stand line old ≡ true) × (new ≡ with_line line old)
Takes line old new (Err refusal.Memory) = Unit {0}
Takes line old new (Err (refusal.Line why)) = may_stand line old ≡ false

-- whether the line may stand there; want of memory says nothing
abbrev pub MayTake : Said → Head → Result (Unit {0}) Refusal → Type 0
MayTake line above (Ok u) = may_stand line above ≡ true
MayTake line above (Err refusal.Memory) = Unit {0}
MayTake line above (Err (refusal.Line why)) = may_stand line above ≡ false

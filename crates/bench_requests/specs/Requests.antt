-- What is made of a request: the settings of a run, the jobs of texts, and rules.
use Rattle.std.specs.Prelude.{◌≡◌, ◌≢◌, ℕ, List, Ok, Err}
use Rattle.text_lines.specs.Words.{Text}
use Rattle.job_file.specs.Texts.{IsFirstRefused}
use Rattle.job_file.specs.declared.error.JobError.TheVariants as error
use Rattle.judge_rules.specs.declared.fault.RuleError.{RuleError}
use Rattle.judge_rules.specs.declared.fault.RuleFault.{RuleFault}
use Rattle.judge_rules.specs.declared.fault.RuleFault.TheVariants as rule
use Rattle.judge_rules.specs.Rules.{AllRules}
use Rattle.bench_requests.specs.declared.fault.CommandFault.{CommandFault}
use Rattle.bench_requests.specs.declared.fault.CommandFault.TheVariants as fault

-- the fault of the first text that spells no job or needs too much, or want of memory
abbrev pub IsRefusedJob : List Text → CommandFault → Type 0
IsRefusedJob texts (fault.Job why) = (why ≢ error.Memory) × ((index : ℕ) × IsFirstRefused texts index why)
IsRefusedJob texts fault.Memory = Unit {0}
IsRefusedJob texts _ = ⊥

-- what a text comes to whose reader tells of this fault: want of memory, or that it is refused so
abbrev pub unless_memory : RuleFault → CommandFault → CommandFault
unless_memory rule.Memory refused = fault.Memory
unless_memory rule.Word refused = refused
unless_memory rule.Number refused = refused
unless_memory rule.Range refused = refused

-- the fault of rules that were refused
abbrev pub fault_of_rules : RuleError → CommandFault
fault_of_rules e = unless_memory e.fault (fault.Rules e)

-- the first fault of a text of rules, or want of memory where it has none
abbrev pub IsRefusedText : AllRules → CommandFault → Type 0
IsRefusedText (Ok rules) found = found ≡ fault.Memory
IsRefusedText (Err e) found = found ≡ fault_of_rules e

use Rattle.std.proofs.Common.{◌≡◌, ◌++◌, drop}
use Rattle.std.specs.List.{zip}
use Rattle.mil_line.specs.Plans.{faults_of}
use Rattle.mil_line.proofs.rising.faults_at.Given as goal

-- those that were found, and those that stand from the place on, are all
abbrev pub invariant-loop-place : goal.invariant-loop-place
invariant-loop-place l = l.found.items ++ faults_of l.number (drop l.place (zip l.numbers l.faults)) ≡ faults_of l.number (zip l.numbers l.faults)

-- The text that a condition is printed as (own choice).
use Rattle.std.specs.Prelude.{ℕ, List, ◌++◌, codes}
use Rattle.mil_status.specs.Status.{name_of}
use Rattle.mil_message.specs.declared.outcome_test.OutcomeTest.{OutcomeTest}
use Rattle.mil_message.specs.declared.outcome_test.OutcomeTest.TheVariants.{Failed, Silent, Bit}
use Rattle.frame_tree.specs.Tree.{Condition, asked, negated, both, either}

-- the text of a test
abbrev pub test_text : OutcomeTest → List ℕ
test_text Failed = codes "fail"
test_text Silent = codes "silent"
test_text (Bit b) = codes "bit " ++ name_of b

-- what stands in front of two conditions in an operator
abbrev pub opening : Condition → List ℕ
opening (both a b) = codes "all ( "
opening c = codes "any ( "

unfoldable pub condition_text : Condition → List ℕ
condition_text (asked t) = test_text t
condition_text (negated c) = codes "not " ++ condition_text c
condition_text (both a b) = codes "all ( " ++ (condition_text a ++ (codes " " ++ (condition_text b ++ codes " )")))
condition_text (either a b) = codes "any ( " ++ (condition_text a ++ (codes " " ++ (condition_text b ++ codes " )")))

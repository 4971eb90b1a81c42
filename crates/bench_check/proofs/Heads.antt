-- Where the script of a text stands, line by line, and that a job's tree is the tree of that script.
use Rattle.std.proofs.Common.{◌≡◌, ℕ, Bool, true, false, List, [], ◌∷◌, length, refl, sym, ap, subst, ◌∙◌, inl, inr}
use Rattle.std.specs.Prelude.{if◌then◌else◌, Option, Some, None, Result, Ok, Err, codes}
use Rattle.std.specs.Result.{result_ok}
use Rattle.std.specs.Str.{bytes_eq}
use Rattle.std.specs.List.{before_first, after_first}
use Rattle.std.proofs.lemmas.Slice.Eq.{bytes_eq-Decides}
use Rattle.text_lines.specs.Words.{Text, words, is_comment}
use Rattle.frame_tree.specs.Tree.{Tree}
use Rattle.frame_text.specs.Frames.{tree_of_text}
use Rattle.frame_text.specs.declared.faults.Cause.{Cause}
use Rattle.job_file.specs.Options.{◌>>=◌}
use Rattle.job_file.specs.Numbers.{number_within, start_of}
use Rattle.job_file.specs.Lines.{Said, blank, said, said_in, of_keyword, is_controller, fault_word_of, fault_of, first, one, four, front, span_of, series_of, control_at, terminal_action_at, fault_by, faults_by, channel_in, start_in, terminal_in, action_in, fault_in, faults_in, series_in}
use Rattle.job_file.specs.HeadLines.{Head, head_of}
use Rattle.job_file.specs.Spelled.{ChannelJob, joined_lines, is_script, parted, all_said, lawful, first_of, job_with, written_with, written_of, written, job_meant, spelled}
use Rattle.job_file.specs.Timed.{resolved}
use Rattle.job_file.specs.Whens.{when_words, when_of, which_words, which_of}
use Rattle.job_file.specs.declared.whens.When.{When}
use Rattle.job_file.specs.declared.whens.When.TheVariants as when
use Rattle.job_file.specs.declared.whens.Which.{Which}
use Rattle.job_file.specs.declared.whens.Which.TheVariants as which
use Rattle.mil_line.specs.declared.faults.Fault.{Fault}
use Rattle.text_lines.specs.Lines.{is_line_end, lines_of}
use Rattle.job_file.specs.declared.keywords.Keyword.{Keyword}
use Rattle.job_file.specs.declared.keywords.Keyword.TheVariants as keyword
use Rattle.job_file.proofs.LineLemmas.{first_line, text_again}
use Rattle.bench_check.specs.Scripts.{behind, script_in}

-- the job of a text has the tree of the script

of_tree : (job : ChannelJob) (c : ℕ) (head : Head) (r : Result Tree Cause) → job_meant (result_ok r >>= (λ tree. Some (written_with c head tree))) ≡ Some job → r ≡ Ok job.tree
of_tree job c head (Ok tree) e = let is : resolved (job_with c head tree) head.timed ≡ job = cc in ap (λ (j : ChannelJob). Ok j.tree) is
of_tree job c head (Err why) e = absurd (cc)

of_channel : (job : ChannelJob) (head : Head) (o : Option ℕ) (r : Result Tree Cause)
    → job_meant (o >>= (λ c. result_ok r >>= (λ tree. Some (written_with c head tree)))) ≡ Some job → r ≡ Ok job.tree
of_channel job head None r e = absurd (cc)
of_channel job head (Some c) r e = of_tree job c head r e

of_heads : (job : ChannelJob) (o : Option (List Said)) (text : Text) → job_meant (o >>= (λ heads. written_of (head_of heads) text)) ≡ Some job → tree_of_text text ≡ Ok job.tree
of_heads job None text e = absurd (cc)
of_heads job (Some heads) text e = of_channel job (head_of heads) (first_of (head_of heads).channels) (tree_of_text text) e

of_said : (job : ChannelJob) (o : Option (List Said)) (text : Text)
    → job_meant (o >>= (λ said. lawful [] said >>= (λ heads. written_of (head_of heads) text))) ≡ Some job → tree_of_text text ≡ Ok job.tree
of_said job None text e = absurd (cc)
of_said job (Some said) text e = of_heads job (lawful [] said) text e

of_parts : (job : ChannelJob) (o : Option (List Text × List Text)) (text : Text) → behind o ≡ Some text
    → job_meant (o >>= (λ parts. all_said parts.0 >>= (λ said. lawful [] said >>= (λ heads. written_of (head_of heads) (joined_lines parts.1))))) ≡ Some job
    → tree_of_text text ≡ Ok job.tree
of_parts job None text is e = absurd (cc)
of_parts job (Some parts) text is e =
    let same : joined_lines parts.1 ≡ text = cc in
    subst (λ (t : Text). tree_of_text t ≡ Ok job.tree) same (of_said job (all_said parts.0) (joined_lines parts.1) e)

of_none : (job : ChannelJob) (o : Option (List Text × List Text)) → behind o ≡ None
    → job_meant (o >>= (λ parts. all_said parts.0 >>= (λ said. lawful [] said >>= (λ heads. written_of (head_of heads) (joined_lines parts.1))))) ≡ Some job → ⊥
of_none job None is e = absurd (cc)
of_none job (Some parts) is e = absurd (cc)

pub tree_of_script : (text below : Text) (job : ChannelJob) → script_in text ≡ Some below → spelled text ≡ Some job → tree_of_text below ≡ Ok job.tree
unfolding spelled written
tree_of_script text below job is e = of_parts job (parted (lines_of text)) below is e

pub no_script : (text : Text) (job : ChannelJob) → script_in text ≡ None → spelled text ≡ Some job → ⊥
unfolding spelled written
no_script text job is e = of_none job (parted (lines_of text)) is e

-- line by line

here : (line : Text) (lines : List Text) → is_script (said line) ≡ true → behind (parted (line ∷ lines)) ≡ Some (joined_lines lines)
here line lines e = rw e refl

behind_more : (line : Text) (o : Option (List Text × List Text)) → behind (o >>= (λ (parts : List Text × List Text). Some (line ∷ parts.0, parts.1))) ≡ behind o
behind_more line None = refl
behind_more line (Some parts) = refl

further : (line : Text) (lines : List Text) → is_script (said line) ≡ false → behind (parted (line ∷ lines)) ≡ behind (parted lines)
further line lines e = rw e (behind_more line (parted lines))

pub found : (text : Text) → is_script (said (before_first is_line_end text)) ≡ true → script_in text ≡ Some (after_first is_line_end text)
found text e =
    elim (first_line text) [
      | inl more ↦ ap (λ ls. behind (parted ls)) more ∙ here (before_first is_line_end text) (lines_of (after_first is_line_end text)) e ∙ ap Some (text_again (after_first is_line_end text))
      | inr last ↦ ap (λ ls. behind (parted ls)) last.0 ∙ here (before_first is_line_end text) [] e ∙ ap Some (sym last.1)
    ]

pub nothing_in : script_in [] ≡ None
unfolding said_in
nothing_in = refl

pub passed : (text : Text) → is_script (said (before_first is_line_end text)) ≡ false → script_in text ≡ script_in (after_first is_line_end text)
passed text e =
    elim (first_line text) [
      | inl more ↦ ap (λ ls. behind (parted ls)) more ∙ further (before_first is_line_end text) (lines_of (after_first is_line_end text)) e
      | inr last ↦ ap (λ ls. behind (parted ls)) last.0 ∙ further (before_first is_line_end text) [] e ∙ sym nothing_in ∙ ap script_in (sym last.1)
    ]

-- which line is that of the script

never : {X : Type 0} (o : Option X) (f : X → Option Said) → ((x : X) → is_script (f x) ≡ false) → is_script (o >>= f) ≡ false
never None f h = refl
never (Some x) f h = h x

by_host : (b : Bool) (w : When) (host : Text) (ws : List Text)
    → is_script (if b then Some (control_at w ws) else (number_within 0 30 host >>= (λ address. Some (terminal_action_at w address ws)))) ≡ false
by_host true (when.Number n) host ws = refl
by_host true (when.Moment m) host ws = refl
by_host false (when.Number n) host ws = never (number_within 0 30 host) _ (λ address. refl)
by_host false (when.Moment m) host ws = never (number_within 0 30 host) _ (λ address. refl)

by_when : (w : When) (f : Fault) → is_script (Some (fault_by w f)) ≡ false
by_when (when.Number n) f = refl
by_when (when.Moment m) f = refl

by_which : (w : Which) (f : Fault) → is_script (Some (faults_by w f)) ≡ false
by_which (which.Numbers span) f = refl
by_which (which.Places selector span) f = refl
by_which (which.Window selector from to) f = refl

of_other : (k : Keyword) (ws : List Text) → (k ≡ keyword.Script → ⊥) → is_script (of_keyword k ws) ≡ false
unfolding of_keyword channel_in start_in terminal_in action_in fault_in faults_in series_in
of_other keyword.Channel ws h = never (one ws) _ (λ w. never (number_within 1 65535 w) _ (λ n. refl))
of_other keyword.Start ws h = never (one ws) _ (λ w. never (start_of w) _ (λ n. refl))
of_other keyword.Terminal ws h = never (one ws) _ (λ w. never (number_within 0 30 w) _ (λ n. refl))
of_other keyword.At ws h =
    never (when_words ws) _ (λ n. never (first n.1) _ (λ a. never (first a.1) _ (λ more.
    never (when_of 1 1000000 n.0) _ (λ w. by_host (is_controller a.0) w a.0 a.1))))
of_other keyword.Fault ws h =
    never (when_words ws) _ (λ n. never (first n.1) _ (λ k. never (fault_word_of k.0) _ (λ kind. never (fault_of kind k.1) _ (λ f.
    never (when_of 0 9999999 n.0) _ (λ w. by_when w f)))))
of_other keyword.Faults ws h =
    never (which_words ws) _ (λ n. never (first n.1) _ (λ k. never (fault_word_of k.0) _ (λ kind. never (fault_of kind k.1) _ (λ f.
    never (which_of n.0) _ (λ w. by_which w f)))))
of_other keyword.Series ws h = never (front ws) _ (λ n. never (four n.1) _ (λ w. never (span_of n.0) _ (λ span. never (series_of span w) _ (λ s. refl))))
of_other keyword.Script ws h = absurd (h refl)

by_words : (a b c d e f g : Bool) (ws : List Text)
    → is_script ((if a then Some keyword.Channel
    else if b then Some keyword.Start
    else if c then Some keyword.Terminal
    else if d then Some keyword.At
    else if e then Some keyword.Fault
    else if f then Some keyword.Faults
    else if g then Some keyword.Series
    else None) >>= (λ k. of_keyword k ws)) ≡ false
by_words true b c d e f g ws = of_other keyword.Channel ws (λ i. cc)
by_words false true c d e f g ws = of_other keyword.Start ws (λ i. cc)
by_words false false true d e f g ws = of_other keyword.Terminal ws (λ i. cc)
by_words false false false true e f g ws = of_other keyword.At ws (λ i. cc)
by_words false false false false true f g ws = of_other keyword.Fault ws (λ i. cc)
by_words false false false false false true g ws = of_other keyword.Faults ws (λ i. cc)
by_words false false false false false false true ws = of_other keyword.Series ws (λ i. cc)
by_words false false false false false false false ws = refl

by_comment : (b : Bool) (o : Option Said) → is_script o ≡ false → is_script (if b then Some blank else o) ≡ false
by_comment true o e = refl
by_comment false o e = e

other_word : (w : Text) (ws : List Text) → bytes_eq w (codes "script") ≡ false → is_script (said_in (w ∷ ws)) ≡ false
unfolding said_in
other_word w ws e =
    by_comment (is_comment w) _ (rw e (by_words (bytes_eq w (codes "channel")) (bytes_eq w (codes "start")) (bytes_eq w (codes "terminal")) (bytes_eq w (codes "at")) (bytes_eq w (codes "fault")) (bytes_eq w (codes "faults")) (bytes_eq w (codes "series")) ws))

more_words : (v : Text) (vs : List Text) → is_script (said_in (codes "script" ∷ v ∷ vs)) ≡ false
unfolding said_in of_keyword
more_words v vs = refl

one_word : is_script (said_in (codes "script" ∷ [])) ≡ true
unfolding said_in of_keyword
one_word = refl

no_word : is_script (said_in []) ≡ false
unfolding said_in
no_word = refl

pub is_none : (line : Text) → words line ≡ [] → false ≡ is_script (said line)
is_none line e = sym (ap (λ ws. is_script (said_in ws)) e ∙ no_word)

alone : (w : Text) (b : Bool) → bytes_eq w (codes "script") ≡ b → is_script (said_in (w ∷ [])) ≡ b
alone w true e = ap (λ u. is_script (said_in (u ∷ []))) ((bytes_eq-Decides w (codes "script")).0 e) ∙ one_word
alone w false e = other_word w [] e

more : (w v : Text) (vs : List Text) (b : Bool) → bytes_eq w (codes "script") ≡ b → is_script (said_in (w ∷ v ∷ vs)) ≡ false
more w v vs true e = ap (λ u. is_script (said_in (u ∷ v ∷ vs))) ((bytes_eq-Decides w (codes "script")).0 e) ∙ more_words v vs
more w v vs false e = other_word w (v ∷ vs) e

pub is_alone : (line w : Text) (ws : List Text) → words line ≡ w ∷ ws → ws ≡ [] → bytes_eq w (codes "script") ≡ is_script (said line)
is_alone line w ws e none = sym (ap (λ us. is_script (said_in us)) (e ∙ ap (λ us. w ∷ us) none) ∙ alone w (bytes_eq w (codes "script")) refl)

pub is_more : (line w v : Text) (ws vs : List Text) → words line ≡ w ∷ ws → ws ≡ v ∷ vs → false ≡ is_script (said line)
is_more line w v ws vs e some = sym (ap (λ us. is_script (said_in us)) (e ∙ ap (λ us. w ∷ us) some) ∙ more w v vs (bytes_eq w (codes "script")) refl)

pub none_left : (rest : Text) → length rest ≡ 0 → script_in rest ≡ None
none_left [] e = nothing_in
none_left (b ∷ rest) e = absurd (cc)

-- Why a question is not answered, as it is told to people.
use Rattle.std.specs.Prelude.{ℕ, Bool, true, false, List, ◌++◌, codes}
use Rattle.reply_core.specs.Texts.{fault_text, reply_text}
use Rattle.load_core.specs.FaultTexts.{without_last}
use Rattle.load_core.specs.declared.fault.Undone.{Undone}
use Rattle.load_core.specs.declared.fault.Undone.TheVariants as undone
use Rattle.explain_text.specs.declared.question.Question.{Question}
use Rattle.explain_text.specs.declared.fault.Unanswered.{Unanswered}
use Rattle.explain_text.specs.declared.fault.Unanswered.TheVariants as reasons
use Rattle.explain_text.specs.declared.fault.ExplainFault.{ExplainFault}
use Rattle.explain_text.specs.declared.fault.ExplainFault.TheVariants as faults
use Rattle.explain_text.specs.Questions.{word, user_word, table_word, privilege_words}

-- why a line says no change that would be done, as a session would be told it
abbrev pub supposed_text : Undone → List ℕ
supposed_text (undone.Fault code offset) = without_last (fault_text code offset)
supposed_text undone.Unread = codes "no memory"
supposed_text undone.NoChange = codes "no change: only a change can take a right"
supposed_text (undone.Answer reply) = without_last (reply_text reply)

-- words as they were given, in quotes, and what they are not
abbrev pub given : List ℕ → List ℕ → List ℕ
given words told = codes "'" ++ (words ++ (codes "' " ++ told))

abbrev pub no_name : List ℕ
no_name = codes "is no name of a user or a table"

abbrev pub no_privilege : List ℕ
no_privilege =
    codes "is no privilege: write SELECT, INSERT, DELETE or UPDATE, "
    ++ codes "or of a column SELECT(c) or UPDATE(c)"

-- why the question has no answer
abbrev pub unanswered_text : Question → Unanswered → List ℕ
unanswered_text question reasons.NoMemory = codes "no memory"
unanswered_text question reasons.NoUser = given (user_word question) no_name
unanswered_text question reasons.NoTableName = given (table_word question) no_name
unanswered_text question reasons.NoPrivilege = given (privilege_words question) no_privilege
unanswered_text question (reasons.NoTable table) = codes "no table " ++ table
unanswered_text question (reasons.NoColumn table column) =
    codes "no column " ++ (column ++ (codes " in " ++ table))
unanswered_text question reasons.NoGraph =
    word question ++ codes " has no dot: its formats are text and csv"
unanswered_text question (reasons.Undone why) = supposed_text why

-- what is told of a fault, without a line end
abbrev pub explain_fault_text : Question → ExplainFault → List ℕ
explain_fault_text question faults.Write = codes "write fault"
explain_fault_text question (faults.Unanswered why) = unanswered_text question why

-- whether a question with this reason has no answer at all, and not only for want of memory
abbrev pub is_final : Unanswered → Bool
is_final reasons.NoMemory = false
is_final reasons.NoUser = true
is_final reasons.NoTableName = true
is_final reasons.NoPrivilege = true
is_final (reasons.NoTable table) = true
is_final (reasons.NoColumn table column) = true
is_final reasons.NoGraph = true
is_final (reasons.Undone why) = true

-- whether a fault is of the question, and neither of the writer nor of memory
abbrev pub is_of_the_question : ExplainFault → Bool
is_of_the_question faults.Write = false
is_of_the_question (faults.Unanswered why) = is_final why

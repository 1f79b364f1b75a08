-- What is answered.
use Rattle.std.specs.Prelude.{◌≡◌, ℕ, Bool, true, false, List, None}
use Rattle.base_core.specs.declared.name.Name.{Name}
use Rattle.tables_core.specs.Contents.{Table}
use Rattle.grants_core.specs.declared.grant.Change.{Change}
use Rattle.explain_words.specs.declared.format.Format.{Format}
use Rattle.explain_words.specs.declared.format.Format.TheVariants as formats
use Rattle.explain_records.specs.Consequences.{if_answer}
use Rattle.explain_records.specs.Cuttings.{IsCutAnswer}
use Rattle.explain_records.specs.Differences.{diff_answer}
use Rattle.explain_records.specs.Givings.{can_answer}
use Rattle.explain_records.specs.Steps.{IsWhyAnswer}
use Rattle.explain_records.specs.Records.{fell_answer, grants_answer, rights_answer, who_answer}
use Rattle.explain_text.specs.Asking.{IsAsked, is_yes}
use Rattle.explain_text.specs.declared.explaining.Answered.{Answered}
use Rattle.explain_text.specs.declared.question.Question.{Question}
use Rattle.explain_text.specs.declared.asked.Asked.{Asked}
use Rattle.explain_text.specs.declared.asked.Asked.TheVariants as asks

-- the records that answer what is asked, where the changes have these lines; of all but why and cut to the byte
abbrev pub AreRecords : List Change → List ℕ → Asked → List ℕ → Type 0
AreRecords changes numbers asks.Rights text = text ≡ rights_answer changes
AreRecords changes numbers asks.Fell text = text ≡ fell_answer changes numbers
AreRecords changes numbers asks.Grants text = text ≡ grants_answer changes numbers
AreRecords changes numbers (asks.Who table atoms) text = text ≡ who_answer changes atoms.items
AreRecords changes numbers (asks.Why user table atoms) text =
    IsWhyAnswer changes numbers user atoms.items text
AreRecords changes numbers asks.If text = text ≡ if_answer changes numbers
AreRecords changes numbers (asks.Diff at) text = text ≡ diff_answer changes numbers at.0
AreRecords changes numbers (asks.Can user table atoms) text =
    text ≡ can_answer changes user atoms.items
AreRecords changes numbers (asks.Cut user table atoms) text =
    IsCutAnswer changes user atoms.items text

-- whether rights or grants are asked for, which are records in any form
abbrev pub is_of_records : Asked → Bool
is_of_records asks.Rights = true
is_of_records asks.Grants = true
is_of_records asks.Fell = false
is_of_records (asks.Who table atoms) = false
is_of_records (asks.Why user table atoms) = false
is_of_records asks.If = false
is_of_records (asks.Diff at) = false
is_of_records (asks.Can user table atoms) = false
is_of_records (asks.Cut user table atoms) = false

-- a text answers what is asked in this form
abbrev pub IsAnswerTo : List Change → List ℕ → Asked → Format → List ℕ → Type 0
IsAnswerTo changes numbers asked formats.Csv text = AreRecords changes numbers asked text
IsAnswerTo changes numbers asked formats.Text text =
    is_of_records asked ≡ true → AreRecords changes numbers asked text
IsAnswerTo changes numbers asked formats.Dot text =
    is_of_records asked ≡ true → AreRecords changes numbers asked text

-- whether something may stand beside an answer: why nothing would take it
abbrev pub may_remark : Asked → Bool
may_remark (asks.Cut user table atoms) = true
may_remark (asks.Why user table atoms) = false
may_remark (asks.Who table atoms) = false
may_remark asks.Rights = false
may_remark asks.Fell = false
may_remark asks.Grants = false
may_remark asks.If = false
may_remark (asks.Diff at) = false
may_remark (asks.Can user table atoms) = false

-- What was written, and what is said of it, answer a question whose words say something at these tables: whether
-- the answer is yes is exact.
pub record AnswersQuestion (changes : List Change) (numbers : List ℕ) (tables : List (Name × Table))
    (question : Question) (format : Format) (answered : Answered) (text : List ℕ) : Type 0 where
  pub asked : Asked
  pub read : IsAsked tables question asked
  pub yes : answered.is_yes ≡ is_yes changes asked
  pub told : IsAnswerTo changes numbers asked format text
  pub alone : may_remark asked ≡ false → answered.remark ≡ None

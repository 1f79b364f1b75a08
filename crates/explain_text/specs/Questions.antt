-- What is asked, and in which forms it is answered.
use Rattle.std.specs.Prelude.{ℕ, Bool, true, false, List, [], codes, Some, None}
use Rattle.explain_text.specs.declared.question.Question.{Question}
use Rattle.explain_text.specs.declared.question.Question.TheVariants as questions
use Rattle.explain_words.specs.declared.format.Format.{Format}
use Rattle.explain_words.specs.declared.format.Format.TheVariants as formats

-- the word of the command line
abbrev pub word : Question → List ℕ
word (questions.Why user privilege table) = codes "why"
word (questions.Who table privilege) = codes "who"
word questions.Rights = codes "rights"
word questions.Fell = codes "fell"
word questions.Grants = codes "grants"
word (questions.If line) = codes "if"
word (questions.Cut user privilege table) = codes "cut"
word (questions.Can user privilege table) = codes "can"
word (questions.Diff at) = codes "diff"

-- the word for the user; or nothing
abbrev pub user_word : Question → List ℕ
user_word (questions.Why user privilege table) = user.now
user_word (questions.Who table privilege) = []
user_word questions.Rights = []
user_word questions.Fell = []
user_word questions.Grants = []
user_word (questions.If line) = []
user_word (questions.Cut user privilege table) = user.now
user_word (questions.Can user privilege table) = user.now
user_word (questions.Diff at) = []

-- the word for the table; or nothing
abbrev pub table_word : Question → List ℕ
table_word (questions.Why user privilege table) = table.now
table_word (questions.Who table privilege) = table.now
table_word questions.Rights = []
table_word questions.Fell = []
table_word questions.Grants = []
table_word (questions.If line) = []
table_word (questions.Cut user privilege table) = table.now
table_word (questions.Can user privilege table) = table.now
table_word (questions.Diff at) = []

-- the words for the privilege; or nothing
abbrev pub privilege_words : Question → List ℕ
privilege_words (questions.Why user privilege table) = privilege.now
privilege_words (questions.Who table (Some privilege)) = privilege.now
privilege_words (questions.Who table None) = []
privilege_words questions.Rights = []
privilege_words questions.Fell = []
privilege_words questions.Grants = []
privilege_words (questions.If line) = []
privilege_words (questions.Cut user privilege table) = privilege.now
privilege_words (questions.Can user privilege table) = privilege.now
privilege_words (questions.Diff at) = []

-- whether there is a graph of what is asked: of why a user holds a privilege, and of who does
abbrev pub has_graph : Question → Bool
has_graph (questions.Why user privilege table) = true
has_graph (questions.Who table privilege) = true
has_graph questions.Rights = false
has_graph questions.Fell = false
has_graph questions.Grants = false
has_graph (questions.If line) = false
has_graph (questions.Cut user privilege table) = false
has_graph (questions.Can user privilege table) = false
has_graph (questions.Diff at) = false

-- whether it can be answered in this form
abbrev pub has_format : Question → Format → Bool
has_format question formats.Text = true
has_format question formats.Csv = true
has_format question formats.Dot = has_graph question

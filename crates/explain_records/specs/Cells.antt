-- What stands in the records of rights.
use Rattle.std.specs.Prelude.{ℕ, Bool, if◌then◌else◌, List, [], codes, decimal}
use Rattle.reply_core.specs.Texts.{kind_text}
use Rattle.explain_records.specs.declared.cell.Cell.{Cell}
use Rattle.explain_records.specs.declared.cell.Cell.TheVariants as cells
use Rattle.explain_records.specs.declared.cell.Word.{Word}
use Rattle.explain_records.specs.declared.cell.Word.TheVariants as words

abbrev pub word_text : Word → List ℕ
word_text words.Owner = codes "OWNER"
word_text words.Owns = codes "owns"
word_text words.Holds = codes "holds"
word_text words.Lacks = codes "lacks"
word_text words.Revoked = codes "revoked"
word_text words.Fell = codes "fell"
word_text words.OptionRevoked = codes "option revoked"
word_text words.Loses = codes "loses"
word_text words.Keeps = codes "keeps"
word_text words.KeepsWithoutOption = codes "keeps without option"
word_text words.Came = codes "came"
word_text words.LostOption = codes "lost option"
word_text words.Granted = codes "granted"
word_text words.Created = codes "created"
word_text words.Privilege = codes "privilege"
word_text words.OptionAlone = codes "option"

abbrev pub flag_text : Bool → List ℕ
flag_text flag = if flag then codes "yes" else codes "no"

-- the text of a field
abbrev pub cell_text : Cell → List ℕ
cell_text cells.Nothing = []
cell_text (cells.Name name) = name
cell_text (cells.Kind kind) = kind_text kind
cell_text (cells.Flag flag) = flag_text flag
cell_text (cells.Number number) = decimal number
cell_text (cells.Word word) = word_text word

-- What the program prints (document 01, "Quick planner and sheet reader", last sentence).
use Rattle.std.specs.Prelude.{ℕ, cond, List, ◌++◌, eqb, take}
use Rattle.model.specs.declared.Answer.{Answer}
use Rattle.model.specs.Bounds.{most_sheet, program_bytes, program_words}
use Rattle.model.specs.Frames.{digits}
use Rattle.model.specs.Refusals.{Result, refused, done, number_of}
use Rattle.model.specs.Answers.{Output}
use Rattle.model.specs.Sheet.{lf}
use Rattle.model.specs.Calls.{planner_result}

-- "one line `FF`, number (2 digits), line (4 digits), ended by LF"
unfoldable pub refusal_line : ℕ → ℕ → List ℕ
refusal_line number line = digits 2 255 ++ digits 2 number ++ digits 4 line ++ lf

-- "prints the planner's sheet, or one line"
abbrev pub printed : Result Output → List ℕ
printed (refused r number) = refusal_line (number_of r) number
printed (done s) = s.bytes

-- the same, from what a call answered and the buffer that it left: the bytes that it wrote, or the line of its refusal (proofs/AnswerLaws, `printed_from_lem`);
-- document 02, M-107: "in the form in which the program prints it"
abbrev pub printed_from : Answer → List ℕ → List ℕ
printed_from a after = cond (eqb a.number 0) (take a.bytes after) (refusal_line a.number a.line)

-- "takes the first 4,096 bytes of its input as the book", "lends 6,144 words"; the longest sheet has 159 bytes
unfoldable pub program_output : List ℕ → List ℕ
program_output input = printed (planner_result (take program_bytes input) program_words most_sheet)

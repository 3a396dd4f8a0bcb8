-- `day::day` meets its contract: 18, then what all books put out, and with it 19 or the output.
use mathlib.Core.Path.{sym, subst}
use Prim.Native.Nat.{◌≤◌}
use lib.ListN.{length}
use lib.Seq.{length-take-le}
use Rattle.model.specs.Bounds.{most_books}
use Rattle.model.specs.Trials.{WordsKept}
use Rattle.model.specs.Day.{books_of}
use Rattle.day.proofs.ResultLaws.{written-within, many_writes, long-writes, given_writes, few-free}
use native.Mathlib.Omega.{arith}
use Rattle.day.proofs.day.Goals as goal

pub returns-then-book_count-gt-BOOKS-clause-result : goal.returns-then-book_count-gt-BOOKS-clause-result
returns-then-book_count-gt-BOOKS-clause-result c =
    let a = c.args in
    many_writes (books_of a.books.now) (length a.work.now) a.out.now _ (omega (arith, c.book_count.ensures, c.if-book_count-gt-BOOKS.true)) c.refusal.ensures

pub returns-then-out-length-clause-result : goal.returns-then-out-length-clause-result
returns-then-out-length-clause-result c =
    let few : length (books_of c.args.books.now) ≤ most_books = omega (arith, c.book_count.ensures, c.if-book_count-gt-BOOKS.false) in
    let out = c.args.out.now in
    long-writes (books_of c.args.books.now) (length c.args.work.now) out _ c.write_books-length.result few c.write_books-length.ensures.length (omega arith) c.refusal-then-out-length.ensures

pub returns-then-out-length-clause-words : goal.returns-then-out-length-clause-words
returns-then-out-length-clause-words c =
    let w = c.write_books-length in
    subst (λ m. WordsKept m c.args.work.now w.new.work)
    (few-free c.args.books.now (length c.args.work.now) (omega (arith, c.book_count.ensures, c.if-book_count-gt-BOOKS.false))) w.ensures.words

pub slice_bounds-waiting-end : goal.slice_bounds-waiting-end
slice_bounds-waiting-end c =
    let waits : c.write_books-length.result ≤ length c.write_books-length.new.out = let w = c.write_books-length in written-within _ w.new.out _ w.result c.write_books-length.ensures.bytes c.write_books-length.ensures.length in
    waits

pub slice_bounds-copy-end : goal.slice_bounds-copy-end
slice_bounds-copy-end c =
    let waits : c.write_books-length.result ≤ length c.write_books-length.new.out = let w = c.write_books-length in written-within _ w.new.out _ w.result c.write_books-length.ensures.bytes c.write_books-length.ensures.length in
    let w = c.write_books-length in sym (length-take-le w.result w.new.out (waits))

pub returns-clause-result : goal.returns-clause-result
returns-clause-result c =
    let few : length (books_of c.args.books.now) ≤ most_books = omega (arith, c.book_count.ensures, c.if-book_count-gt-BOOKS.false) in
    let w = c.write_books-length in
    let out = c.args.out.now in
    given_writes (books_of c.args.books.now) (length c.args.work.now) out _ w.result _ _ _ few c.write_books-length.ensures.length (omega arith) c.write_books-length.ensures.bytes
    c.copy.ensures c.success.ensures

pub returns-clause-words : goal.returns-clause-words
returns-clause-words c =
    let w = c.write_books-length in
    subst (λ m. WordsKept m c.args.work.now w.new.work)
    (few-free c.args.books.now (length c.args.work.now) (omega (arith, c.book_count.ensures, c.if-book_count-gt-BOOKS.false))) w.ensures.words

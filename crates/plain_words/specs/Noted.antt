-- What a turn leaves of the book.
use Rattle.std.specs.Prelude.{ℕ}
use Rattle.one_history.specs.declared.book.Book.{Book}
use Rattle.one_history.specs.Turns.{took, found_held, gave, drew, looked, published, saw, failed, found_alive}
use Rattle.plain_words.specs.declared.ghost_book.Turn.{Turn}
use Rattle.plain_words.specs.declared.ghost_book.Turn.TheVariants.{Took, FoundHeld, Gave, Drew, Looked, Published, Saw}
use Rattle.plain_words.specs.declared.ghost_book.Turn.TheVariants.{Failed, FoundAlive}

abbrev pub after : ℕ → Turn → Book → Book
after j (Took i content) b = took j i content.now b
after j (FoundHeld i) b = found_held j i b
after j (Gave p) b = gave j p.now b
after j (Drew c) b = drew j c.now b
after j Looked b = looked j b
after j (Published n) b = published j n b
after j Saw b = saw j b
after j Failed b = failed j b
after j FoundAlive b = found_alive j b

-- The canonical text of a document gives it again.
use Rattle.std.specs.Prelude.{◌≡◌, ℕ, List, Ok}
use Rattle.scenario_text.specs.declared.document.Document.{Document}
use Rattle.scenario_text.specs.Reading.{document_of}

-- where some bytes are the document, these bytes are that document again
abbrev pub IsReadAgain : Document → List ℕ → Type 0
IsReadAgain d text = (bytes : List ℕ) → document_of bytes ≡ Ok d → document_of text ≡ Ok d

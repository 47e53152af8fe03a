mod Held
mod NamedOutput
mod ServedWords
mod TakenLines

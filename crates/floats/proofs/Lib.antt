mod Even
mod Ends
mod Range
mod Patterns

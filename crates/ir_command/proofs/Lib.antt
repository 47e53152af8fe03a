mod FirstWord

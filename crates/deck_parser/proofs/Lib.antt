mod OneDeck
